-- The pairs of a chunk stand next to each other.
use Rattle.std.proofs.Common.{◌≡◌, ◌≢◌, ℕ, zero, suc, ◌+◌, ◌-◌, ◌<◌, ◌≤◌, Bool, true, false, List, [], ◌∷◌, length, get_or, take, drop, Option, Some, refl, sym, ap, inl, inr, arith}
use Rattle.std.specs.Prelude.{filter}
use Rattle.std.specs.List.{AllWithin}
use Rattle.std.specs.List.Sorted.{IsNonDecreasingBy}
use Rattle.std.specs.Ordering.{nat_cmp, is_lt, is_eq}
use Rattle.std.proofs.lemmas.Bool.{cases_lt, eq-eqb, ne_eqb}
use Rattle.std.proofs.lemmas.Bool.Decides.{nat_tests}
use Rattle.layout.specs.Ascending.{Ascends}
use Rattle.itable.specs.declared.chunk.Pair.{Pair}
use Rattle.itable.specs.Chunk.{chunk_number, i_number_of}
use Rattle.itable.specs.ITable.{is_in}

pub lt_from_less : (a b : ℕ) → is_lt (nat_cmp a b) ≡ true → a < b
lt_from_less a b h = grind (arith, nat_tests)

pub less_from_lt : (a b : ℕ) → a < b → is_lt (nat_cmp a b) ≡ true
less_from_lt a b h = grind (arith, nat_tests)

pub other_key : (a b : ℕ) → a ≢ b → is_eq (nat_cmp a b) ≡ false
other_key a b apart = grind (arith, nat_tests)

pub itself : (a : ℕ) → is_eq (nat_cmp a a) ≡ true
itself a = grind (arith, nat_tests)

pub same_key : (a b : ℕ) → is_eq (nat_cmp a b) ≡ true → a ≡ b
same_key a b h = grind (arith, nat_tests)

-- ---- the order of the pairs

rise_following : (p : Pair) (ps : List Pair) → Ascends nat_cmp i_number_of (Some p) ps → (j : ℕ) (d : Pair) → j < length ps → p.i_number < (get_or ps j d).i_number
unfolding Ascends
rise_following p [] up j d lt = absurd (omega arith)
rise_following p (q ∷ qs) up zero d lt = lt_from_less p.i_number q.i_number up.0
rise_following p (q ∷ qs) up (suc j) d lt = omega (arith, lt_from_less p.i_number q.i_number up.0, rise_following q qs up.1 j d (omega arith))

-- the numbers of the chunks don't fall
pub chunks_rise : (b : Option Pair) (ps : List Pair) → Ascends nat_cmp i_number_of b ps → IsNonDecreasingBy (λ p. chunk_number p.i_number) ps
unfolding Ascends
chunks_rise b [] up i j d le lt = absurd (omega arith)
chunks_rise b (p ∷ ps) up zero zero d le lt = omega arith
chunks_rise b (p ∷ ps) up zero (suc j) d le lt = omega (arith, rise_following p ps up.1 j d (omega arith))
chunks_rise b (p ∷ ps) up (suc i) zero d le lt = absurd (omega arith)
chunks_rise b (p ∷ ps) up (suc i) (suc j) d le lt = chunks_rise (Some p) ps up.1 i j d (omega arith) (omega arith)

-- ---- a run of elements that pass a test

module _ {T : Type 0} (test : T → Bool) where
  -- where the elements from i to j pass, and no others, they are those that a filter keeps
  pub run_is : (xs : List T) (i j : ℕ) → i ≤ j → j ≤ length xs → AllWithin (λ x. test x ≡ false) xs 0 i → AllWithin (λ x. test x ≡ true) xs i j → AllWithin (λ x. test x ≡ false) xs j (length xs) → filter test xs ≡ take (j - i) (drop i xs)
  run_is [] zero zero le in_range before within after = refl
  run_is [] zero (suc j) le in_range before within after = absurd (omega arith)
  run_is [] (suc i) j le in_range before within after = absurd (omega arith)
  run_is (x ∷ xs) zero zero le in_range before within after =
      let here : test x ≡ false = after 0 x (omega arith) (omega arith) in
      rw here (run_is xs zero zero (omega arith) (omega arith) (λ k d low high. absurd (omega arith)) (λ k d low high. absurd (omega arith)) (λ k d low high. after (suc k) d (omega arith) (omega arith)))
  run_is (x ∷ xs) zero (suc j) le in_range before within after =
      let here : test x ≡ true = within 0 x (omega arith) (omega arith) in
      let shorter : suc j - 0 ≡ suc (j - 0) = omega arith in
      rw (here, shorter) (ap (λ (ys : List T). x ∷ ys)
      (run_is xs zero j (omega arith) (omega arith) (λ k d low high. absurd (omega arith)) (λ k d low high. within (suc k) d (omega arith) (omega arith)) (λ k d low high. after (suc k) d (omega arith) (omega arith))))
  run_is (x ∷ xs) (suc i) zero le in_range before within after = absurd (omega arith)
  run_is (x ∷ xs) (suc i) (suc j) le in_range before within after =
      let here : test x ≡ false = before 0 x (omega arith) (omega arith) in
      let same : suc j - suc i ≡ j - i = omega arith in
      rw (here, same) (run_is xs i j (omega arith) (omega arith) (λ k d low high. before (suc k) d (omega arith) (omega arith)) (λ k d low high. within (suc k) d (omega arith) (omega arith)) (λ k d low high. after (suc k) d (omega arith) (omega arith)))

-- ---- the pairs of a chunk

module _ (ps : List Pair) (n i j : ℕ) (below_low : AllWithin (λ p. chunk_number p.i_number < n) ps 0 i) (above_low : AllWithin (λ p. n ≤ chunk_number p.i_number) ps i (length ps))
    (below_high : AllWithin (λ p. chunk_number p.i_number < n + 1) ps 0 j) (above_high : AllWithin (λ p. n + 1 ≤ chunk_number p.i_number) ps j (length ps)) where
  -- the lower chunks end before it does
  pub ends_after : i ≤ length ps → i ≤ j
  ends_after inside =
      elim (cases_lt j i) [
        | inl lt ↦ (
            let d : Pair = record { i_number = 0; digest = [] } in
            absurd (omega (arith, below_low j d (omega arith) lt, above_high j d (omega arith) (omega arith))))
        | inr le ↦ le
      ]

  pub run_of_chunk : i ≤ j → j ≤ length ps → take (j - i) (drop i ps) ≡ filter (is_in n) ps
  run_of_chunk le inside =
      sym (run_is (is_in n) ps i j le inside
      (λ k d low high. ne_eqb (chunk_number (get_or ps k d).i_number) n (λ e. omega (arith, below_low k d low high)))
      (λ k d low high. eq-eqb (chunk_number (get_or ps k d).i_number) n (omega (arith, above_low k d low (omega arith), below_high k d (omega arith) high)))
      (λ k d low high. ne_eqb (chunk_number (get_or ps k d).i_number) n (λ e. omega (arith, above_high k d low high))))
