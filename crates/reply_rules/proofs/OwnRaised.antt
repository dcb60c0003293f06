-- The own plan counts each group that the own operation raises.
use Rattle.std.proofs.Common.{◌≡◌, ℕ, ◌+◌, ◌<◌, Bool, true, false, List, [], ◌∷◌, ◌++◌, refl, sym, ap, subst, ◌∙◌, arith}
use Rattle.std.specs.Prelude.{◌==◌, ◌&&◌, ◌||◌, filter, if◌then◌else◌}
use Rattle.std.specs.List.{list_any}
use Rattle.std.proofs.lemmas.Bool.{and_parts, eq-eqb, eqb-true}
use Rattle.std.proofs.lemmas.List.Elements.{filter-append}
use Rattle.layout.specs.Types.{Group, Principal}
use Rattle.principals.specs.Table.{Table}
use Rattle.version_order.specs.declared.vector.Component.{Component}
use Rattle.version_order.specs.Vector.{raised, raised_all, version_of}
use Rattle.version_order.proofs.Raising.{version_of-raised}
use Rattle.pending_list.specs.Groups.{raised_groups, raises}
use Rattle.pending_list.specs.Reply.{PendingItem}
use Rattle.reply_rules.specs.Lists.{Lists}
use Rattle.reply_rules.specs.Rules.{each_has_next_vector, is_above, items_above, next_vector, own_above, same_vector, top_vector, vector, vectors_follow}
use Rattle.reply_rules.proofs.RaisedLaws.{version-grows}
use Rattle.reply_rules.proofs.SameVector.{same_vector_is}

-- what is raised counts
counts : (g : Group) (p : Principal) (ps : List Principal) (v : List Component) (here : Bool) → (p == g) ≡ here → (here || list_any (λ h. h == g) ps) ≡ true
    → ((w : List Component) → list_any (λ h. h == g) ps ≡ true → 0 < version_of g (raised_all ps w)) → 0 < version_of g (raised_all ps (raised p v))
counts g p ps v true is some later =
    let one : version_of g (raised p v) ≡ version_of g v + 1 = rw is at (version_of-raised p g v) in
    omega (arith, one, version-grows g ps (raised p v))
counts g p ps v false is some later = later (raised p v) some

raised_counts : (g : Group) (ps : List Principal) (v : List Component) → list_any (λ h. h == g) ps ≡ true → 0 < version_of g (raised_all ps v)
raised_counts g [] v none = absurd cc
raised_counts g (p ∷ ps) v some = counts g p ps v (p == g) refl some (λ w rest. raised_counts g ps w rest)

-- the last one's vector follows from one before it
last_has_next : (t : Table) (v : List Component) (is : List PendingItem) (own : PendingItem) → each_has_next_vector t v (is ++ own ∷ []) ≡ true → (w : List Component) × (same_vector own.plan.vector (next_vector t own w) ≡ true)
last_has_next t v [] own all = (v, (and_parts (same_vector own.plan.vector (next_vector t own v)) true all).0)
last_has_next t v (i ∷ is) own all = last_has_next t i.plan.vector is own (and_parts (same_vector i.plan.vector (next_vector t i v)) (each_has_next_vector t i.plan.vector (is ++ own ∷ [])) all).1

above_last : (x : Lists) → own_above x ≡ true → items_above x ≡ filter (λ i. is_above x i.plan) x.others ++ x.own ∷ []
above_last x above = filter-append (λ (i : PendingItem). is_above x i.plan) x.others (x.own ∷ []) ∙ rw above refl

-- where the rule on vectors holds, a group that the own operation raises has a version in the own plan
pub own_counts : (t : Table) (x : Lists) (g : Group) → vector t x ≡ true → raises t g x.own ≡ true → 0 < version_of g x.own.plan.vector
unfolding vector
own_counts t x g holds is =
    let rest = (and_parts _ _ holds).1 in
    let parts = and_parts (own_above x) (vectors_follow t x) rest in
    let follows : each_has_next_vector t (top_vector x) (filter (λ i. is_above x i.plan) x.others ++ x.own ∷ []) ≡ true = subst (λ (is : List PendingItem). each_has_next_vector t (top_vector x) is ≡ true) (above_last x parts.0) parts.1 in
    let last = last_has_next t (top_vector x) (filter (λ i. is_above x i.plan) x.others) x.own follows in
    let same = same_vector_is x.own.plan.vector (next_vector t x.own last.0) last.1 in
    subst (λ (v : List Component). 0 < version_of g v) (sym same) (raised_counts g (raised_groups t x.own) _ is)
