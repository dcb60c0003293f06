-- Versions of a group: what an operation adds to them, and their order among the pending operations.
use Rattle.std.proofs.Common.{◌≡◌, ℕ, zero, suc, ◌+◌, ◌<◌, ◌≤◌, List, [], ◌∷◌, ◌++◌, Option, Some, None, Bool, true, false, cond, refl, sym, ap, ◌∙◌, subst, inl, inr, arith}
use Rattle.std.specs.Prelude.{◌⊎◌, ◌==◌, ◌&&◌, map, nat_le, nat_lt, if◌then◌else◌}
use Rattle.std.specs.List.{filter, list_all, list_any}
use Rattle.std.specs.Option.{option_map_or}
use Rattle.std.specs.Ordering.{nat_cmp}
use Rattle.std.proofs.lemmas.Bool.{eqb-true, eq-eqb, ne_eqb, ltb-true, lt-ltb, le-ltb, leb-true, cases_Bool, cases_lt, cases_eq, false≢true, true≢false, and_parts, or_cases}
use Rattle.layout.specs.Ascending.{row_at}
use Rattle.layout.specs.AscendingKeys.{key_test}
use Rattle.principals.specs.Table.{Table, is_member}
use Rattle.version_order.specs.declared.structure.GroupRecord.{GroupRecord}
use Rattle.version_order.specs.declared.vector.Component.{Component}
use Rattle.version_order.specs.Plan.{Plan}
use Rattle.version_order.specs.Structure.{Structure}
use Rattle.version_order.specs.Vector.{is_below, principal_of, raised, raised_all, version_of}
use Rattle.version_order.proofs.Raising.{version_of-raised}
use Rattle.pending_list.specs.declared.signed.Signed.{Signed}
use Rattle.pending_list.specs.Groups.{groups, groups_below, raised_groups, raises, raises_at, table_version, touches}
use Rattle.pending_list.specs.Reply.{PendingItem}
use Rattle.pending_list.proofs.GroupsLaws.{has_group}
use Rattle.reply_rules.specs.Rules.{any_two, ascends_after, depth, in_order, next_vector}
use Rattle.client_tree.specs.View.{newer, newest, record_of}
use Rattle.agreement.proofs.Members.{Ascends, In, map-in, one, one-other, one-same}
use Rattle.agreement.proofs.Tests.{all_above, all_in, later_ascend}
use Rattle.agreement.proofs.ByPlans.{one_turned}

-- how often a group is among these
abbrev amount : ℕ → List ℕ → ℕ
amount g [] = 0
amount g (h ∷ hs) = one g h + amount g hs

amount_append : (g : ℕ) (xs ys : List ℕ) → amount g (xs ++ ys) ≡ amount g xs + amount g ys
amount_append g [] ys = omega arith
amount_append g (x ∷ xs) ys = let ih = amount_append g xs ys in omega arith

version_raised : (g : ℕ) (hs : List ℕ) (v : List Component) → version_of g (raised_all hs v) ≡ version_of g v + amount g hs
version_raised g [] v = omega arith
version_raised g (h ∷ hs) v =
    let ih = version_raised g hs (raised h v) in
    let here = version_of-raised h g v in
    let turned = one_turned g h in
    omega arith

amount_kept : (g : ℕ) (t : ℕ → Bool) (hs : List ℕ) → amount g (filter t hs) ≡ (if t g then amount g hs else 0)
amount_kept g t [] = same_zero (t g)
  where
    same_zero : (b : Bool) → ◌≡◌ {A = ℕ} 0 (if b then 0 else 0)
    same_zero true = refl
    same_zero false = refl
amount_kept g t (h ∷ hs) =
    elim (cases_eq g h) [
      | inl e ↦ same (t h) (t g) (ap t e) (amount_kept g t hs)
      | inr n ↦ other (t h) (t g) (one-other g h n) (amount_kept g t hs)
    ]
  where
    same : (b c : Bool) → c ≡ b → amount g (filter t hs) ≡ (if c then amount g hs else 0) → amount g (cond b (h ∷ filter t hs) (filter t hs)) ≡ (if c then one g h + amount g hs else 0)
    same true true e ih = omega arith
    same true false e ih = absurd (false≢true e)
    same false true e ih = absurd (true≢false e)
    same false false e ih = omega arith

    other : (b c : Bool) → one g h ≡ 0 → amount g (filter t hs) ≡ (if c then amount g hs else 0) → amount g (cond b (h ∷ filter t hs) (filter t hs)) ≡ (if c then one g h + amount g hs else 0)
    other true true e ih = omega arith
    other true false e ih = omega arith
    other false true e ih = omega arith
    other false false e ih = omega arith

no_amount : (n g : ℕ) → 64 + n ≤ g → amount g (groups_below n) ≡ 0
unfolding groups_below
no_amount zero g far = refl
no_amount (suc n) g far =
    let ih = no_amount n g (omega arith) in
    let last = one-other g (n + 64) (λ e. omega arith) in
    let both = amount_append g (groups_below n) ((n + 64) ∷ []) in
    omega arith

one_amount : (n g : ℕ) → 64 ≤ g → g < 64 + n → amount g (groups_below n) ≡ 1
unfolding groups_below
one_amount zero g low high = absurd (omega arith)
one_amount (suc n) g low high =
    let both = amount_append g (groups_below n) ((n + 64) ∷ []) in
    elim (cases_eq g (n + 64)) [
      | inl e ↦ (
          let none = no_amount n g (omega arith) in
          let last = one-same g (n + 64) e in
          omega arith)
      | inr other ↦ (
          let ih = one_amount n g low (omega arith) in
          let last = one-other g (n + 64) other in
          omega arith)
    ]

-- whether an operation raises a group: a change is of it, and its user is a member
pub raises_is : (t : Table) (g : ℕ) (i : PendingItem) → 64 ≤ g → g < 96 → raises t g i ≡ (list_any (touches g) i.cert.changes && is_member t g i.cert.user (table_version i.plan))
raises_is t g i low high = has_group (raises_at t (table_version i.plan) i.cert) 32 g low high

-- the version of a group after the operation
pub next_group_version : (t : Table) (i : PendingItem) (v : List Component) (g : ℕ) → 64 ≤ g → g < 96 → i.plan.user < 64 → i.plan.vector ≡ next_vector t i v
    → version_of g i.plan.vector ≡ version_of g v + (if raises t g i then 1 else 0)
next_group_version t i v g low high user e =
    let next = ap (version_of g) e in
    let all = version_raised g (raised_groups t i) (raised i.plan.user v) in
    let first = version_of-raised i.plan.user g v in
    let turned = one_turned g i.plan.user in
    let none = one-other g i.plan.user (λ e. omega arith) in
    let kept = amount_kept g (raises_at t (table_version i.plan) i.cert) groups in
    let one_group = one_amount 32 g low high in
    let is = raises_is t g i low high in
    let added : amount g (raised_groups t i) ≡ (if raises t g i then 1 else 0)
    = kept ∙ ap (λ n. if raises_at t (table_version i.plan) i.cert g then n else 0) one_group ∙ ap (λ b. if b then 1 else 0) (sym is) in
    omega arith

amount_any : (g : ℕ) (hs : List ℕ) → (if list_any (λ h. h == g) hs then 1 else 0) ≤ amount g hs
amount_any g [] = omega arith
amount_any g (h ∷ hs) =
    let ih = amount_any g hs in
    elim (cases_eq g h) [
      | inl e ↦ (let once = one-same g h e in rw (eq-eqb h g (sym e)) (omega arith))
      | inr n ↦ (let none = one-other g h n in rw (ne_eqb h g (λ m. n (sym m))) (omega arith))
    ]

-- no version falls from one operation to the next, and that of a group that it raises grows
pub grows : (t : Table) (i : PendingItem) (v : List Component) (g : ℕ) → i.plan.vector ≡ next_vector t i v → version_of g v + (if raises t g i then 1 else 0) ≤ version_of g i.plan.vector
grows t i v g e =
    let next = ap (version_of g) e in
    let all = version_raised g (raised_groups t i) (raised i.plan.user v) in
    let first = version_of-raised i.plan.user g v in
    let added = amount_any g (raised_groups t i) in
    omega arith

-- ---- order

pub ascends_by : {A : Type 0} (f h : A → ℕ) (xs : List A) → ((x y : A) → In x xs → In y xs → f x < f y → h x < h y) → Ascends f xs → Ascends h xs
ascends_by f h [] each a = tt
ascends_by f h (x ∷ xs) each a = ((λ y i. each x y (inl refl) (inr i) (a.0 y i)), ascends_by f h xs (λ y z i j. each y z (inr i) (inr j)) a.1)

pub depths_ascend : (before : Option ℕ) (ps : List Plan) → ascends_after before (map (λ p. depth p) ps) ≡ true → Ascends (λ (p : Plan). depth p) ps
depths_ascend before [] h = tt
depths_ascend before (p ∷ ps) h =
    let later = later_ascend before (depth p) (map (λ p. depth p) ps) h in
    ((λ q i. all_above (depth p) (map (λ p. depth p) ps) later (depth q) (map-in (λ (p : Plan). depth p) ps q i)), depths_ascend (Some (depth p)) ps later)

pub two_of : (t : Plan → Plan → Bool) (ps : List Plan) → any_two t ps ≡ true → (p q : Plan) → In p ps → In q ps → (p ≡ q) ⊎ ((t p q ≡ true) ⊎ (t q p ≡ true))
two_of t [] h p q i j = absurd i
two_of t (x ∷ xs) h p q (inl i) (inl j) = inl (i ∙ sym j)
two_of t (x ∷ xs) h p q (inl i) (inr j) =
    inr (inl (subst (λ z. t z q ≡ true) (sym i) (all_in (t x) xs (and_parts (list_all (t x) xs) (any_two t xs) h).0 q j)))
two_of t (x ∷ xs) h p q (inr i) (inl j) =
    inr (inr (subst (λ z. t z p ≡ true) (sym j) (all_in (t x) xs (and_parts (list_all (t x) xs) (any_two t xs) h).0 p i)))
two_of t (x ∷ xs) h p q (inr i) (inr j) = two_of t xs (and_parts (list_all (t x) xs) (any_two t xs) h).1 p q i j

below_version : (g : ℕ) (v w : List Component) → is_below v w ≡ true → version_of g v ≤ version_of g w
below_version g [] w h = omega arith
below_version g (c ∷ v) w h =
    let parts = and_parts (nat_le c.version (version_of c.principal w)) (is_below v w) h in
    let here = leb-true c.version (version_of c.principal w) parts.0 in
    let ih = below_version g v w parts.1 in
    elim (cases_eq c.principal g) [
      | inl e ↦ (
          let is : version_of g (c ∷ v) ≡ c.version = ap (λ b. option_map_or (λ (c : Component). c.version) (cond b (Some c) (row_at nat_cmp principal_of v g)) 0) (key_test c.principal g ∙ eq-eqb c.principal g e) in
          let there = ap (λ p. version_of p w) e in
          omega arith)
      | inr n ↦ (
          let is : version_of g (c ∷ v) ≡ version_of g v = ap (λ b. option_map_or (λ (c : Component). c.version) (cond b (Some c) (row_at nat_cmp principal_of v g)) 0) (key_test c.principal g ∙ ne_eqb c.principal g n) in
          omega arith)
    ]

-- no version falls from the lesser depth to the greater
pub no_fall : (g : ℕ) (ps : List Plan) → any_two in_order ps ≡ true → (p q : Plan) → In p ps → In q ps → depth p < depth q → version_of g p.vector ≤ version_of g q.vector
no_fall g ps h p q i j less =
    elim (two_of in_order ps h p q i j) [
      | inl e ↦ absurd (let same = ap (λ (p : Plan). depth p) e in omega arith)
      | inr either ↦ elim either [
        | inl t ↦ of_test p q t less
        | inr t ↦ turned q p t less
      ]
    ]
  where
    of_test : (p q : Plan) → in_order p q ≡ true → depth p < depth q → version_of g p.vector ≤ version_of g q.vector
    of_test p q t less =
        elim (or_cases (nat_lt (depth p) (depth q) && is_below p.vector q.vector) (nat_lt (depth q) (depth p) && is_below q.vector p.vector) t) [
          | inl k ↦ below_version g p.vector q.vector (and_parts (nat_lt (depth p) (depth q)) (is_below p.vector q.vector) k).1
          | inr k ↦ absurd (let more = ltb-true (depth q) (depth p) (and_parts (nat_lt (depth q) (depth p)) (is_below q.vector p.vector) k).0 in omega arith)
        ]

    turned : (q p : Plan) → in_order q p ≡ true → depth p < depth q → version_of g p.vector ≤ version_of g q.vector
    turned q p t less =
        elim (or_cases (nat_lt (depth q) (depth p) && is_below q.vector p.vector) (nat_lt (depth p) (depth q) && is_below p.vector q.vector) t) [
          | inl k ↦ absurd (let more = ltb-true (depth q) (depth p) (and_parts (nat_lt (depth q) (depth p)) (is_below q.vector p.vector) k).0 in omega arith)
          | inr k ↦ below_version g p.vector q.vector (and_parts (nat_lt (depth p) (depth q)) (is_below p.vector q.vector) k).1
        ]

-- nor from one depth to another that isn't less
pub never_falls : (g : ℕ) (ps : List Plan) → any_two in_order ps ≡ true → (p q : Plan) → In p ps → In q ps → depth p ≤ depth q → version_of g p.vector ≤ version_of g q.vector
never_falls g ps h p q i j no_less =
    elim (cases_lt (depth p) (depth q)) [
      | inl less ↦ no_fall g ps h p q i j less
      | inr no_more ↦ elim (two_of in_order ps h p q i j) [
        | inl e ↦ (let same = ap (λ (p : Plan). version_of g p.vector) e in omega arith)
        | inr either ↦ elim either [
          | inl t ↦ absurd (differ p q t (omega arith))
          | inr t ↦ absurd (differ q p t (omega arith))
        ]
      ]
    ]
  where
    differ : (p q : Plan) → in_order p q ≡ true → depth p ≡ depth q → ⊥
    differ p q t same =
        elim (or_cases (nat_lt (depth p) (depth q) && is_below p.vector q.vector) (nat_lt (depth q) (depth p) && is_below q.vector p.vector) t) [
          | inl k ↦ (let more = ltb-true (depth p) (depth q) (and_parts (nat_lt (depth p) (depth q)) (is_below p.vector q.vector) k).0 in omega arith)
          | inr k ↦ (let more = ltb-true (depth q) (depth p) (and_parts (nat_lt (depth q) (depth p)) (is_below q.vector p.vector) k).0 in omega arith)
        ]

-- ---- records

-- the version in a record, 0 without one
abbrev pub version_in : Option GroupRecord → ℕ
version_in o = option_map_or (λ r. r.version) o 0

pub record_listed : (g : ℕ) (rs : List GroupRecord) (r : GroupRecord) → record_of g rs ≡ Some r → In r rs
record_listed g [] r e = cc
record_listed g (q ∷ rs) r e =
    elim (cases_Bool (q.group == g)) [
      | inl t ↦ (let k : Some q ≡ Some r = rw t at e in let m : r ≡ q = cc in inl m)
      | inr f ↦ (let k : record_of g rs ≡ Some r = rw f at e in inr (record_listed g rs r k))
    ]

pub record_group : (g : ℕ) (rs : List GroupRecord) (r : GroupRecord) → record_of g rs ≡ Some r → r.group ≡ g
record_group g [] r e = absurd cc
record_group g (q ∷ rs) r e =
    elim (cases_Bool (q.group == g)) [
      | inl t ↦ (let k : Some q ≡ Some r = rw t at e in let m : r ≡ q = cc in ap (λ (r : GroupRecord). r.group) m ∙ eqb-true q.group g t)
      | inr f ↦ (let k : record_of g rs ≡ Some r = rw f at e in record_group g rs r k)
    ]

-- the record is of greatest version, and one of these structures has it
pub record Newest (g : ℕ) (zs : List (Signed Structure)) (r : GroupRecord) : Type 0 where
  pub structure : Signed Structure
  pub shown : In structure zs
  pub has : record_of g structure.value.groups ≡ Some r
  pub most : (z : Signed Structure) → In z zs → version_in (record_of g z.value.groups) ≤ r.version

abbrev NewestCases : ℕ → List (Signed Structure) → Option GroupRecord → Type 0
NewestCases g zs n = ((n ≡ None) × ((z : Signed Structure) → In z zs → record_of g z.value.groups ≡ None)) ⊎ ((r : GroupRecord) × (n ≡ Some r) × Newest g zs r)

newer_later : (r s : GroupRecord) → r.version < s.version → newer (Some r) (Some s) ≡ Some s
newer_later r s l = rw (lt-ltb r.version s.version l) refl

newer_first : (r s : GroupRecord) → s.version ≤ r.version → newer (Some r) (Some s) ≡ Some r
newer_first r s l = rw (le-ltb r.version s.version l) refl

pub newest_cases : (g : ℕ) (zs : List (Signed Structure)) → NewestCases g zs (newest g zs)
unfolding newest
newest_cases g [] = inl (refl, λ z i. absurd i)
newest_cases g (z ∷ zs) = go (record_of g z.value.groups) (newest g zs) refl (newest_cases g zs)
  where
    go : (o n : Option GroupRecord) → record_of g z.value.groups ≡ o → NewestCases g zs n → NewestCases g (z ∷ zs) (newer o n)
    go None n e (inl h) = inl (h.0, λ y i. (elim i [ inl k ↦ ap (λ (z : Signed Structure). record_of g z.value.groups) k ∙ e | inr k ↦ h.1 y k ]))
    go None n e (inr h) =
        inr (
          h.0,
          h.1,
          record {
            structure = h.2.structure;
            shown = inr h.2.shown;
            has = h.2.has;
            most = λ y i. (elim i [ inl k ↦ (let m = ap version_in (ap (λ (z : Signed Structure). record_of g z.value.groups) k ∙ e) in omega arith) | inr k ↦ h.2.most y k ]);
          },
        )
    go (Some r) n e (inl h) =
        inr (
          r,
          ap (newer (Some r)) h.0,
          record {
            structure = z;
            shown = inl refl;
            has = e;
            most = λ y i.
                (elim i [
                  | inl k ↦ (let m = ap version_in (ap (λ (z : Signed Structure). record_of g z.value.groups) k ∙ e) in omega arith)
                  | inr k ↦ (let m = ap version_in (h.1 y k) in omega arith)
                ]);
          },
        )
    go (Some r) n e (inr h) =
        elim (cases_lt r.version h.0.version) [
          | inl l ↦ inr (
            h.0,
            ap (newer (Some r)) h.1 ∙ newer_later r h.0 l,
            record {
              structure = h.2.structure;
              shown = inr h.2.shown;
              has = h.2.has;
              most = λ y i. (elim i [ inl k ↦ (let m = ap version_in (ap (λ (z : Signed Structure). record_of g z.value.groups) k ∙ e) in omega arith) | inr k ↦ h.2.most y k ]);
            },
          )
          | inr l ↦ inr (
            r,
            ap (newer (Some r)) h.1 ∙ newer_first r h.0 l,
            record {
              structure = z;
              shown = inl refl;
              has = e;
              most = λ y i.
                  (elim i [
                    | inl k ↦ (let m = ap version_in (ap (λ (z : Signed Structure). record_of g z.value.groups) k ∙ e) in omega arith)
                    | inr k ↦ (let m = h.2.most y k in omega arith)
                  ]);
            },
          )
        ]
