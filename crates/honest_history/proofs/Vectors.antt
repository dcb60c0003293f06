-- What raising versions does to the depth of a vector, and vectors that are below others.
use Rattle.std.proofs.Common.{◌≡◌, ◌≢◌, ℕ, ◌+◌, ◌<◌, ◌≤◌, List, [], ◌∷◌, Option, Some, None, true, false, refl, sym, ap, ◌∙◌, inl, inr, arith}
use Rattle.std.specs.Prelude.{nat_lt, nat_le, sum_by, if◌then◌else◌}
use Rattle.std.specs.Option.{option_map_or}
use Rattle.std.specs.Ordering.{nat_cmp, is_eq, is_lt}
use Rattle.std.proofs.lemmas.Bool.{eq-eqb, ne_eqb, lt-ltb, le-ltb, le-leb, cases_Bool, cases_eq}
use Rattle.std.proofs.lemmas.Cmp.{nat_cmp_total}
use Rattle.std.proofs.lemmas.List.Sums.{sum_by-cons}
use Rattle.layout.specs.Ascending.{Ascends, row_at, with_row}
use Rattle.layout.specs.AscendingKeys.{key_test, lt_from_less}
use Rattle.layout.specs.AscendingLaws.{ascends_with_row, none_following}
use Rattle.version_order.specs.declared.vector.Component.{Component}
use Rattle.version_order.specs.Vector.{depth, is_below, principal_of, raised, raised_all, user_version, version_of}
use Rattle.version_order.proofs.Raising.{version_of-raised}
use Rattle.agreement.proofs.Members.{In}
use Rattle.honest_history.proofs.Members.{all_from}

-- the components ascend by principal
abbrev pub Listed : List Component → Type 0
Listed v = Ascends nat_cmp principal_of None v

pub none_listed : Listed []
unfolding Ascends
none_listed = tt

pub raised_listed : (p : ℕ) (v : List Component) → Listed v → Listed (raised p v)
raised_listed p v up = ascends_with_row nat_cmp principal_of nat_cmp_total None v (record { principal = p; version = version_of p v + 1 }) refl up

pub all_raised_listed : (ps : List ℕ) (v : List Component) → Listed v → Listed (raised_all ps v)
all_raised_listed [] v up = up
all_raised_listed (p ∷ ps) v up = all_raised_listed ps (raised p v) (raised_listed p v up)

-- ---- depth

not_less : (a b : ℕ) → (a < b → ⊥) → is_lt (nat_cmp a b) ≡ false
not_less a b h = elim (cases_Bool (is_lt (nat_cmp a b))) [ inl e ↦ absurd (h (lt_from_less a b e)) | inr e ↦ e ]

-- with a row among others the sum has its number, and no longer that of the row in whose place it is
module _ (f : Component → ℕ) (c : Component) where
  abbrev of_row : List Component → ℕ
  of_row v = option_map_or f (row_at nat_cmp principal_of v c.principal) 0

  abbrev put : List Component → List Component
  put v = with_row nat_cmp principal_of v c

  sum_with : (b : Option Component) (v : List Component) → Ascends nat_cmp principal_of b v → sum_by f (put v) + of_row v ≡ sum_by f v + f c
  unfolding Ascends
  sum_with b [] up = let one = sum_by-cons f c [] in omega arith
  sum_with b (d ∷ v) up =
      let old = sum_by-cons f d v in
      elim (cases_eq d.principal c.principal) [
        | inl e ↦ (
            let same : is_eq (nat_cmp d.principal c.principal) ≡ true = key_test d.principal c.principal ∙ eq-eqb d.principal c.principal e in
            let less : is_lt (nat_cmp d.principal c.principal) ≡ false = not_less d.principal c.principal (λ l. omega arith) in
            let now : put (d ∷ v) ≡ c ∷ v = rw (less, same) refl in
            let row : of_row (d ∷ v) ≡ f d = rw same refl in
            let sum = ap (sum_by f) now in
            let new = sum_by-cons f c v in
            omega arith)
        | inr n ↦ (
            let other : is_eq (nat_cmp d.principal c.principal) ≡ false = key_test d.principal c.principal ∙ ne_eqb d.principal c.principal n in
            let row : of_row (d ∷ v) ≡ of_row v = rw other refl in
            elim (cases_Bool (is_lt (nat_cmp d.principal c.principal))) [
              | inl less ↦ (
                  let ih = sum_with (Some d) v up.1 in
                  let now : put (d ∷ v) ≡ d ∷ put v = rw less refl in
                  let sum = ap (sum_by f) now in
                  let new = sum_by-cons f d (put v) in
                  omega arith)
              | inr more ↦ (
                  let now : put (d ∷ v) ≡ c ∷ d ∷ v = rw (more, other) refl in
                  let none : of_row v ≡ 0 = ap (λ o. option_map_or f o 0) (none_following nat_cmp principal_of nat_cmp_total d v c.principal up.1 more) in
                  let sum = ap (sum_by f) now in
                  let new = sum_by-cons f c (d ∷ v) in
                  omega arith)
            ])
      ]

-- the row of a user adds its version, that of a group nothing
row_version : (p : ℕ) (v : List Component) → option_map_or user_version (row_at nat_cmp principal_of v p) 0 ≡ (if nat_lt p 64 then version_of p v else 0)
row_version p [] = elim (cases_Bool (nat_lt p 64)) [ inl e ↦ rw e refl | inr e ↦ rw e refl ]
row_version p (c ∷ v) =
    elim (cases_eq c.principal p) [
      | inl e ↦ (let same = key_test c.principal p ∙ eq-eqb c.principal p e in rw (same, e) refl)
      | inr n ↦ (let other = key_test c.principal p ∙ ne_eqb c.principal p n in rw other (row_version p v))
    ]

pub depth_raised_user : (p : ℕ) (v : List Component) → p < 64 → Listed v → depth (raised p v) ≡ depth v + 1
depth_raised_user p v l up =
    let c : Component = record { principal = p; version = version_of p v + 1 } in
    let sum = sum_with user_version c None v up in
    let row = row_version p v in
    let own : user_version c ≡ version_of p v + 1 = rw (lt-ltb p 64 l) refl in
    let old : option_map_or user_version (row_at nat_cmp principal_of v p) 0 ≡ version_of p v = row ∙ rw (lt-ltb p 64 l) refl in
    omega arith

pub depth_raised_group : (p : ℕ) (v : List Component) → 64 ≤ p → Listed v → depth (raised p v) ≡ depth v
depth_raised_group p v l up =
    let c : Component = record { principal = p; version = version_of p v + 1 } in
    let sum = sum_with user_version c None v up in
    let row = row_version p v in
    let own : user_version c ≡ 0 = rw (le-ltb p 64 l) refl in
    let old : option_map_or user_version (row_at nat_cmp principal_of v p) 0 ≡ 0 = row ∙ rw (le-ltb p 64 l) refl in
    omega arith

pub depth_raised_all : (gs : List ℕ) (v : List Component) → ((g : ℕ) → In g gs → 64 ≤ g) → Listed v → depth (raised_all gs v) ≡ depth v
depth_raised_all [] v h up = refl
depth_raised_all (g ∷ gs) v h up = depth_raised_all gs (raised g v) (λ k i. h k (inr i)) (raised_listed g v up) ∙ depth_raised_group g v (h g (inl refl)) up

-- ---- versions

pub version_grows : (q : ℕ) (ps : List ℕ) (v : List Component) → version_of q v ≤ version_of q (raised_all ps v)
version_grows q [] v = omega arith
version_grows q (p ∷ ps) v =
    let ih = version_grows q ps (raised p v) in
    let r = version_of-raised p q v in
    omega arith

-- ---- below

head_version : (c : Component) (v : List Component) → version_of c.principal (c ∷ v) ≡ c.version
head_version c v = let same = key_test c.principal c.principal ∙ eq-eqb c.principal c.principal refl in rw same refl

tail_version : (p : ℕ) (c : Component) (v : List Component) → c.principal ≢ p → version_of p (c ∷ v) ≡ version_of p v
tail_version p c v n = let other = key_test c.principal p ∙ ne_eqb c.principal p n in rw other refl

-- what stands after a component is of a greater principal
after_in : (b : Component) (v : List Component) → Ascends nat_cmp principal_of (Some b) v → (c : Component) → In c v → b.principal < c.principal
unfolding Ascends
after_in b [] up c i = absurd i
after_in b (d ∷ v) up c (inl e) = let less = lt_from_less b.principal d.principal up.0 in let same = ap (λ (c : Component). c.principal) e in omega arith
after_in b (d ∷ v) up c (inr i) = let less = lt_from_less b.principal d.principal up.0 in let later = after_in d v up.1 c i in omega arith

-- a vector has the version of each of its components
component_version : (b : Option Component) (v : List Component) → Ascends nat_cmp principal_of b v → (c : Component) → In c v → version_of c.principal v ≡ c.version
unfolding Ascends
component_version b [] up c i = absurd i
component_version b (d ∷ v) up c (inl e) = ap (λ (c : Component). version_of c.principal (d ∷ v)) e ∙ head_version d v ∙ ap (λ (c : Component). c.version) (sym e)
component_version b (d ∷ v) up c (inr i) =
    let less = after_in d v up.1 c i in
    tail_version c.principal d v (λ e. omega arith) ∙ component_version (Some d) v up.1 c i

pub is_below_from : (v w : List Component) → Listed v → ((p : ℕ) → version_of p v ≤ version_of p w) → is_below v w ≡ true
is_below_from v w up h =
    all_from (λ (c : Component). nat_le c.version (version_of c.principal w)) v
    (λ c i. le-leb c.version (version_of c.principal w) (let e = component_version None v up c i in let k = h c.principal in omega arith))
