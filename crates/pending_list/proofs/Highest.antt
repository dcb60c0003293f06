-- The structure that outranks the others, found from the left, and what it is.
use Rattle.std.proofs.Common.{eq-eqb, ◌≡◌, ◌<◌, ◌≤◌, ◌⊎◌, true, false, List, [], ◌∷◌, Option, Some, None, refl, sym, subst, inl, inr, arith}
use Rattle.std.specs.List.{All, Contains}
use Rattle.std.proofs.lemmas.Bool.{cases_lt, lt-ltb, le-ltb, ne_eqb}
use Rattle.std.proofs.lemmas.List.Elements.{All-nil, All-cons, Contains-append_right}
use Rattle.version_order.specs.Structure.{Structure}
use Rattle.pending_list.specs.declared.signed.Signed.{Signed}
use Rattle.pending_list.specs.Reply.{depth_of, user_of, outranks, higher, top}

abbrev Shown : Type 0
Shown = Signed Structure

-- it outranks the other
record Outranks (s t : Shown) : Type 0 where
  is : outranks s t ≡ true
  deeper : depth_of t ≤ depth_of s
  least : depth_of s ≡ depth_of t → user_of s < user_of t

-- it doesn't
record Yields (s t : Shown) : Type 0 where
  is : outranks s t ≡ false
  deeper : depth_of s ≤ depth_of t
  least : depth_of s ≡ depth_of t → user_of t ≤ user_of s

ranked : (s t : Shown) → Outranks s t ⊎ Yields s t
unfolding outranks
ranked s t =
    elim (cases_lt (depth_of t) (depth_of s)) [
      | inl more ↦ inl (record { is = rw (lt-ltb (depth_of t) (depth_of s) more) refl; deeper = omega arith; least = λ same. absurd (omega arith) })
      | inr no_more ↦ elim (cases_lt (depth_of s) (depth_of t)) [
        | inl less ↦ inr (record { is = rw (le-ltb (depth_of t) (depth_of s) no_more, ne_eqb (depth_of s) (depth_of t) (λ same. omega arith)) refl; deeper = no_more; least = λ same. absurd (omega arith) })
        | inr no_less ↦
            let same : depth_of s ≡ depth_of t = omega arith in
            elim (cases_lt (user_of s) (user_of t)) [
              | inl lesser ↦ inl (record { is = rw (le-ltb (depth_of t) (depth_of s) no_more, eq-eqb (depth_of s) (depth_of t) same, lt-ltb (user_of s) (user_of t) lesser) refl; deeper = no_less; least = λ _. lesser })
              | inr no_lesser ↦ inr (record { is = rw (le-ltb (depth_of t) (depth_of s) no_more, eq-eqb (depth_of s) (depth_of t) same, le-ltb (user_of s) (user_of t) no_lesser) refl; deeper = no_more; least = λ _. no_lesser })
            ]
      ]
    ]

climbs : (u s b : Shown) → Outranks u s → Outranks s b → outranks u b ≡ true
climbs u s b p q =
    elim (ranked u b) [
      | inl r ↦ r.is
      | inr r ↦ absurd (omega (arith, p.least (omega (arith, p.deeper, q.deeper, r.deeper)), q.least (omega (arith, p.deeper, q.deeper, r.deeper)), r.least (omega (arith, p.deeper, q.deeper, r.deeper))))
    ]

falls : (u s b : Shown) → Yields u s → Yields s b → outranks u b ≡ false
falls u s b p q =
    elim (ranked u b) [
      | inl r ↦ absurd (omega (arith, p.least (omega (arith, p.deeper, q.deeper, r.deeper)), q.least (omega (arith, p.deeper, q.deeper, r.deeper)), r.least (omega (arith, p.deeper, q.deeper, r.deeper))))
      | inr r ↦ r.is
    ]

-- the best of those that were seen, and the best of the others
abbrev pub best_of : Option Shown → Option Shown → Option Shown
best_of None later = later
best_of (Some b) later = higher b later

-- one more was seen
pub best_of_higher : (b s : Shown) (later : Option Shown) → best_of (higher b (Some s)) later ≡ higher b (higher s later)
best_of_higher b s None = elim (ranked s b) [ inl p ↦ rw p.is refl | inr p ↦ rw p.is refl ]
best_of_higher b s (Some u) =
    elim (ranked s b) [
      | inl p ↦ elim (ranked u s) [ inl q ↦ rw (p.is, q.is, climbs u s b q p) refl | inr q ↦ rw (p.is, q.is, p.is) refl ]
      | inr p ↦ elim (ranked u s) [ inl q ↦ rw (p.is, q.is) refl | inr q ↦ rw (p.is, q.is, p.is, falls u s b q p) refl ]
    ]

-- ---- what top is

-- it is one of them, no other is deeper, and none of equal depth has a lesser user
pub record IsTop (ss : List Shown) (t : Shown) : Type 0 where
  pub there : Contains ss t
  pub deepest : All (λ s. depth_of s ≤ depth_of t) ss
  pub least : All (λ s. depth_of s ≡ depth_of t → user_of t ≤ user_of s) ss

some_higher : (s : Shown) (o : Option Shown) → higher s o ≡ None → ⊥
some_higher s None e = cc
some_higher s (Some u) e = elim (ranked u s) [ inl p ↦ let is : Some u ≡ None = rw p.is at e in cc | inr p ↦ let is : Some s ≡ None = rw p.is at e in cc ]

pub none_listed : (ss : List Shown) → top ss ≡ None → ss ≡ []
none_listed [] e = refl
none_listed (s ∷ ss) e = absurd (some_higher s (top ss) e)

top_of_more : (s : Shown) (ss : List Shown) (o : Option Shown) (t : Shown) → top ss ≡ o → ((u : Shown) → top ss ≡ Some u → IsTop ss u) → higher s o ≡ Some t → IsTop (s ∷ ss) t
top_of_more s ss None t none so_far e =
    let is : s ≡ t = cc in
    subst (IsTop (s ∷ ss)) is (rw (none_listed ss none) (record {
      there = (0, omega arith, refl);
      deepest = All-cons (λ x. depth_of x ≤ depth_of s) s [] (omega arith) (All-nil (λ x. depth_of x ≤ depth_of s));
      least = All-cons (λ x. depth_of x ≡ depth_of s → user_of s ≤ user_of x) s [] (λ _. omega arith) (All-nil (λ x. depth_of x ≡ depth_of s → user_of s ≤ user_of x));
    }))
top_of_more s ss (Some u) t some so_far e =
    let rest = so_far u some in
    elim (ranked u s) [
      | inl p ↦
          let higher_is : Some u ≡ Some t = rw p.is at e in
          let is : u ≡ t = cc in
          subst (IsTop (s ∷ ss)) is (record {
            there = Contains-append_right (s ∷ []) ss u rest.there;
            deepest = All-cons (λ x. depth_of x ≤ depth_of u) s ss p.deeper rest.deepest;
            least = All-cons (λ x. depth_of x ≡ depth_of u → user_of u ≤ user_of x) s ss (λ same. omega (arith, p.least (sym same))) rest.least;
          })
      | inr p ↦
          let higher_is : Some s ≡ Some t = rw p.is at e in
          let is : s ≡ t = cc in
          subst (IsTop (s ∷ ss)) is (record {
            there = (0, omega (arith), refl);
            deepest = All-cons (λ x. depth_of x ≤ depth_of s) s ss (omega arith) (λ i d lt. omega (arith, p.deeper, rest.deepest i d lt));
            least = All-cons (λ x. depth_of x ≡ depth_of s → user_of s ≤ user_of x) s ss (λ _. omega arith) (λ i d lt same. omega (arith, p.least (omega (arith, p.deeper, rest.deepest i d lt)), rest.least i d lt (omega (arith, p.deeper, rest.deepest i d lt))));
          })
    ]

pub top_is : (ss : List Shown) (t : Shown) → top ss ≡ Some t → IsTop ss t
top_is [] t e = absurd cc
top_is (s ∷ ss) t e = top_of_more s ss (top ss) t refl (top_is ss) e
