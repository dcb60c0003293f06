-- The own operation comes after the newest record of each group that it raises.
use Rattle.std.proofs.Common.{◌≡◌, ℕ, ◌<◌, ◌≤◌, List, [], ◌∷◌, ◌++◌, Option, Some, None, true, refl, sym, ap, subst, inl, inr, arith}
use Rattle.std.specs.Prelude.{◌==◌, ◌&&◌, if◌then◌else◌}
use Rattle.std.specs.List.{filter, list_all}
use Rattle.std.specs.Option.{option_map_or}
use Rattle.std.proofs.lemmas.Bool.{eqb-true, lt-ltb, le-ltb, leb-true, and_parts, and_from}
use Rattle.std.proofs.lemmas.List.Elements.{filter-append}
use Rattle.principals.specs.Table.{Table}
use Rattle.version_order.specs.declared.structure.GroupRecord.{GroupRecord}
use Rattle.version_order.specs.declared.vector.Component.{Component}
use Rattle.version_order.specs.Structure.{Structure}
use Rattle.version_order.specs.Vector.{version_of}
use Rattle.pending_list.specs.declared.signed.Signed.{Signed}
use Rattle.pending_list.specs.Groups.{groups, raised_groups, raises}
use Rattle.pending_list.specs.Reply.{PendingItem, depth_of, top}
use Rattle.pending_list.proofs.Highest.{none_listed, top_is}
use Rattle.reply_rules.specs.Lists.{Lists, pending, shown}
use Rattle.reply_rules.specs.Rules.{all_in_order, each_has_next_vector, group_complete, group_records, is_above, items_above, next_vector, of_member, own_above, record_holds, records_hold, records_once, same_vector, table_within, top_vector, vector, vectors_follow, version_within}
use Rattle.reply_rules.proofs.SameVector.{same_vector_is}
use Rattle.client_tree.specs.View.{View, comes_after, newest}
use Rattle.agreement.specs.AfterNewest.{OwnComesAfter, lists_in}
use Rattle.agreement.proofs.Members.{In, contains_in, in-left, map-in, of_all}
use Rattle.agreement.proofs.Tests.{all_in, any_in}
use Rattle.agreement.proofs.ByPlans.{plan_shown, raised_are_groups}
use Rattle.agreement.proofs.GroupVersions.{grows, never_falls, newest_cases, record_group, record_listed, version_in}

-- along operations that follow one another from this vector the version of a group that the last one raises has grown
has_grown : (t : Table) (g n : ℕ) (v : List Component) (is : List PendingItem) (i : PendingItem) → each_has_next_vector t v (is ++ i ∷ []) ≡ true → raises t g i ≡ true → n ≤ version_of g v → n < version_of g i.plan.vector
has_grown t g n v [] i follows raised least =
    let parts = and_parts (same_vector i.plan.vector (next_vector t i v)) true follows in
    let more = grows t i v g (same_vector_is i.plan.vector (next_vector t i v) parts.0) in
    let once : ◌≡◌ {A = ℕ} (if raises t g i then 1 else 0) 1 = ap (λ b. if b then 1 else 0) raised in
    omega arith
has_grown t g n v (j ∷ is) i follows raised least =
    let parts = and_parts (same_vector j.plan.vector (next_vector t j v)) (each_has_next_vector t j.plan.vector (is ++ i ∷ [])) follows in
    let more = grows t j v g (same_vector_is j.plan.vector (next_vector t j v) parts.0) in
    has_grown t g n j.plan.vector is i parts.1 raised (omega arith)

-- the operations above end with the own one
own_ends : (x : Lists) → own_above x ≡ true → items_above x ≡ filter (λ i. is_above x i.plan) x.others ++ x.own ∷ []
own_ends x above = let e = filter-append (λ (i : PendingItem). is_above x i.plan) x.others (x.own ∷ []) in rw above at e

-- no structure has a greater version of a group than top
below_top : (x : Lists) (g : ℕ) → all_in_order x ≡ true → (z : Signed Structure) → In z x.structures → version_of g z.value.plan.vector ≤ version_of g (top_vector x)
below_top x g ordered z i = go (top x.structures) refl
  where
    go : (o : Option (Signed Structure)) → top x.structures ≡ o → version_of g z.value.plan.vector ≤ version_of g (top_vector x)
    go None e = absurd (subst (λ (zs : List (Signed Structure)). In z zs) (none_listed x.structures e) i)
    go (Some t) e =
        let is = top_is x.structures t e in
        let there = contains_in t x.structures is.there in
        let no_deeper = of_all (λ (s : Signed Structure). depth_of s ≤ depth_of t) x.structures is.deepest z i in
        let low = never_falls g (shown x ++ pending x) ordered z.value.plan t.value.plan (in-left z.value.plan (shown x) (pending x) (map-in plan_shown x.structures z i)) (in-left t.value.plan (shown x) (pending x) (map-in plan_shown x.structures t there)) no_deeper in
        let of_top : top_vector x ≡ t.value.plan.vector = ap (λ (o : Option (Signed Structure)). option_map_or (λ p. p.vector) (option_map_or (λ s. Some s.value.plan) o None) []) e in
        subst (λ (v : List Component). version_of g z.value.plan.vector ≤ version_of g v) (sym of_top) low

-- a record's version is at most its structure's version of the group
record_within : (t : Table) (x : Lists) → records_hold t x ≡ true → (z : Signed Structure) → In z x.structures → (r : GroupRecord) → In r z.value.groups → r.version ≤ version_of r.group z.value.plan.vector
record_within t x hold z i r j =
    let each = all_in (λ (z : Signed Structure). list_all (record_holds t z.value.plan) z.value.groups) x.structures hold z i in
    let holds = all_in (record_holds t z.value.plan) z.value.groups each r j in
    leb-true r.version (version_of r.group z.value.plan.vector) (and_parts (version_within z.value.plan r) (table_within z.value.plan r && of_member t z.value.plan r) holds).0

-- the newest record's version is at most top's version of the group
newest_within : (t : Table) (x : Lists) (g : ℕ) → all_in_order x ≡ true → records_hold t x ≡ true → version_in (newest g x.structures) ≤ version_of g (top_vector x)
newest_within t x g ordered hold =
    elim (newest_cases g x.structures) [
      | inl h ↦ (let none = ap version_in h.0 in omega arith)
      | inr h ↦ (
          let (r, e, n) = h in
          let z = n.structure in
          let here = record_within t x hold z n.shown r (record_listed g z.value.groups r n.has) in
          let of_group = ap (λ h. version_of h z.value.plan.vector) (record_group g z.value.groups r n.has) in
          let low = below_top x g ordered z n.shown in
          let is = ap version_in e in
          omega arith)
    ]

-- what is raised is a group
raised_is_group : (t : Table) (g : ℕ) (i : PendingItem) → raises t g i ≡ true → 64 ≤ g
raised_is_group t g i raised =
    let (h, there, is) = any_in (λ h. h == g) (raised_groups t i) raised in
    let low = raised_are_groups t i h there in
    let same = eqb-true h g is in
    omega arith

pub own_comes_after : (x : View) → vector x.table (lists_in x) ≡ true → group_records x.table (lists_in x) ≡ true → OwnComesAfter x
unfolding vector group_records comes_after
own_comes_after x vectors records g raised =
    let l = lists_in x in
    let order = and_parts (all_in_order l) (own_above l && vectors_follow x.table l) vectors in
    let above = and_parts (own_above l) (vectors_follow x.table l) order.1 in
    let hold = and_parts (records_hold x.table l) (records_once l.structures && list_all (group_complete x.table l) groups) records in
    let follows = subst (λ (is : List PendingItem). each_has_next_vector x.table (top_vector l) is ≡ true) (own_ends l above.0) above.1 in
    let more = has_grown x.table g (version_in (newest g x.structures)) (top_vector l) (filter (λ i. is_above l i.plan) x.others) x.own follows raised (newest_within x.table l g order.0 hold.0) in
    rw (le-ltb g 64 (raised_is_group x.table g x.own raised)) (and_from _ _ raised (lt-ltb _ _ more))
