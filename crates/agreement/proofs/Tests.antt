-- What the tests of the rules say of members of lists, and what raising versions does to those of users.
use Rattle.std.proofs.Common.{◌≡◌, ℕ, zero, suc, ◌+◌, ◌<◌, ◌≤◌, List, [], ◌∷◌, Option, Some, None, Bool, true, false, refl, sym, ap, ◌∙◌, subst, inl, inr, arith}
use Rattle.std.specs.Prelude.{◌==◌, ◌&&◌, nat_lt}
use Rattle.std.specs.List.{list_all, list_any}
use Rattle.std.specs.Str.{bytes_eq}
use Rattle.std.proofs.lemmas.Bool.{eqb-true, ltb-true, ne_eqb, cases_eq, false≢true, and_parts, or_cases}
use Rattle.std.proofs.lemmas.Slice.Eq.{bytes_eq-Decides}
use Rattle.version_order.specs.declared.plan.Entry.{Entry}
use Rattle.version_order.specs.declared.vector.Component.{Component}
use Rattle.version_order.specs.Plan.{Plan, entry_of}
use Rattle.version_order.specs.Vector.{raised, raised_all, version_of}
use Rattle.version_order.proofs.Raising.{version_of-raised}
use Rattle.pending_list.specs.Groups.{groups_below}
use Rattle.reply_rules.specs.Broken.{least}
use Rattle.reply_rules.specs.Rules.{ascends_after, entries_of, every_below, lists_entry, same_entry}
use Rattle.reply_rules.specs.declared.rule.Rule.{Rule}
use Rattle.agreement.proofs.Members.{In, in-append, in-map}

pub all_in : {A : Type 0} (t : A → Bool) (xs : List A) → list_all t xs ≡ true → (x : A) → In x xs → t x ≡ true
all_in t [] h x i = absurd i
all_in t (y ∷ ys) h x (inl i) = ap t i ∙ (and_parts (t y) (list_all t ys) h).0
all_in t (y ∷ ys) h x (inr i) = all_in t ys (and_parts (t y) (list_all t ys) h).1 x i

pub any_in : {A : Type 0} (t : A → Bool) (xs : List A) → list_any t xs ≡ true → (x : A) × In x xs × (t x ≡ true)
any_in t [] h = absurd (false≢true h)
any_in t (y ∷ ys) h =
    elim (or_cases (t y) (list_any t ys) h) [
      | inl e ↦ (y, inl refl, e)
      | inr k ↦ (let r = any_in t ys k in (r.0, inr r.1, r.2))
    ]

pub below_at : (n : ℕ) (t : ℕ → Bool) → every_below n t ≡ true → (u : ℕ) → u < n → t u ≡ true
unfolding every_below
below_at zero t h u l = absurd (omega arith)
below_at (suc n) t h u l =
    let parts = and_parts (every_below n t) (t n) h in
    elim (cases_eq u n) [ inl e ↦ ap t e ∙ parts.1 | inr e ↦ below_at n t parts.0 u (omega arith) ]

-- where no rule is broken the first one holds, and none of the others is broken
pub first_holds : (rule : Rule) (holds : Bool) (rest : List (Rule × Bool)) → least ((rule, holds) ∷ rest) ≡ None → (holds ≡ true) × (least rest ≡ None)
first_holds rule true rest h = (refl, h)
first_holds rule false rest h = cc

-- ---- numbers that ascend

pub later_ascend : (before : Option ℕ) (n : ℕ) (ns : List ℕ) → ascends_after before (n ∷ ns) ≡ true → ascends_after (Some n) ns ≡ true
later_ascend None n ns h = h
later_ascend (Some m) n ns h = (and_parts (nat_lt m n) (ascends_after (Some n) ns) h).1

pub all_above : (m : ℕ) (ns : List ℕ) → ascends_after (Some m) ns ≡ true → (n : ℕ) → In n ns → m < n
all_above m [] h n i = absurd i
all_above m (k ∷ ns) h n (inl e) =
    let less = ltb-true m k (and_parts (nat_lt m k) (ascends_after (Some k) ns) h).0 in
    omega arith
all_above m (k ∷ ns) h n (inr i) =
    let parts = and_parts (nat_lt m k) (ascends_after (Some k) ns) h in
    let less = ltb-true m k parts.0 in
    let more = all_above k ns parts.1 n i in
    omega arith

-- ---- entries

same_is : (a b : Entry) → same_entry a b ≡ true → a ≡ b
same_is a b h =
    let user = and_parts (a.user == b.user) ((a.number == b.number) && bytes_eq a.plan b.plan) h in
    let number = and_parts (a.number == b.number) (bytes_eq a.plan b.plan) user.1 in
    let u : a.user ≡ b.user = eqb-true a.user b.user user.0 in
    let n : a.number ≡ b.number = eqb-true a.number b.number number.0 in
    let p : a.plan ≡ b.plan = (bytes_eq-Decides a.plan b.plan).0 number.1 in
    ap (λ (u : ℕ). record { user = u; number = a.number; plan = a.plan }) u
    ∙ ap (λ (n : ℕ). record { user = b.user; number = n; plan = a.plan }) n
    ∙ ap (λ (p : List ℕ). record { user = b.user; number = b.number; plan = p }) p

pub entry_in : (es : List Entry) (e : Entry) → lists_entry es e ≡ true → In e es
entry_in es e h =
    let r = any_in (same_entry e) es h in
    subst (λ (f : Entry). In f es) (sym (same_is e r.0 r.2)) r.1

pub plan_in : (ps : List Plan) (e : Entry) → lists_entry (entries_of ps) e ≡ true → (p : Plan) × In p ps × (e ≡ entry_of p)
plan_in ps e h = in-map (λ p. entry_of p) ps e (entry_in (entries_of ps) e h)

-- ---- raising

pub are_groups : (n g : ℕ) → In g (groups_below n) → 64 ≤ g
unfolding groups_below
are_groups zero g i = absurd i
are_groups (suc n) g i =
    elim (in-append g (groups_below n) ((n + 64) ∷ []) i) [
      | inl j ↦ are_groups n g j
      | inr j ↦ elim j [ inl e ↦ omega arith | inr none ↦ absurd none ]
    ]

-- raising groups leaves the version of a user
pub user_stays : (u : ℕ) (gs : List ℕ) (v : List Component) → u < 64 → ((g : ℕ) → In g gs → 64 ≤ g) → version_of u (raised_all gs v) ≡ version_of u v
user_stays u [] v l each = refl
user_stays u (g ∷ gs) v l each =
    let far = each g (inl refl) in
    user_stays u gs (raised g v) l (λ h i. each h (inr i))
    ∙ version_of-raised g u v
    ∙ rw (ne_eqb g u (λ e. omega arith)) (omega arith)
