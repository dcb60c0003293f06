-- The laws of a table's chunks.
use Rattle.std.proofs.Common.{◌≡◌, ◌≢◌, ℕ, ◌+◌, ◌*◌, ◌/◌, ◌<◌, ◌≤◌, Bool, true, false, List, [], ◌∷◌, length, Option, Some, None, Ok, refl, ap, ◌∙◌, subst, inl, inr, arith}
use Rattle.std.specs.Prelude.{filter, IfSome, ◌↔◌}
use Rattle.std.specs.List.{All}
use Rattle.std.specs.Int.{w8}
use Rattle.std.specs.Option.{option_map}
use Rattle.std.specs.Ordering.{nat_cmp, is_eq}
use Rattle.std.proofs.lemmas.Bool.{eqb-true, eq-eqb, ne_eqb, cases_eq}
use Rattle.std.proofs.lemmas.Bool.Decides.{nat_tests}
use Rattle.std.proofs.lemmas.Cmp.{nat_cmp_total}
use Rattle.std.proofs.lemmas.List.{nil_from_length}
use Rattle.std.proofs.lemmas.List.Elements.{All-head, All-tail, filter_passes}
use Rattle.layout.specs.Format.{FitRows, after_row, whole}
use Rattle.layout.specs.Laws.{in_range_fits, whole_again}
use Rattle.layout.specs.Sizes.{KeysAscend, least_key, few_rows}
use Rattle.layout.specs.Ascending.{above, Ascends, row_at}
use Rattle.layout.specs.AscendingLaws.{ascends_earlier}
use Rattle.itable.specs.declared.chunk.Pair.{Pair}
use Rattle.itable.specs.Chunk.{chunk, chunk_number, i_number_of, pair_row}
use Rattle.itable.specs.ChunkLaws.{lawful_chunk}
use Rattle.itable.specs.ITable.{ITable, IsPair, IsTable, is_in, chunk_of, digest_at, text_of_chunk}
use Rattle.itable.proofs.Runs.{lt_from_less, same_key}

-- ---- the pairs of a chunk

rows_step : (n : ℕ) (b : Option Pair) (p : Pair) (ps : List Pair) → IsPair p → Ascends nat_cmp i_number_of b (p ∷ ps) → FitRows (after_row (pair_row n)) (Some p) (filter (is_in n) ps) → (Ascends nat_cmp i_number_of b ps → FitRows (after_row (pair_row n)) b (filter (is_in n) ps))
    → (t : Bool) → is_in n p ≡ t → FitRows (after_row (pair_row n)) b (filter (is_in n) (p ∷ ps))
unfolding Ascends FitRows
rows_step n b p ps one up with without true is = rw is ((((one.0, is), up.0), one.1), with)
rows_step n b p ps one up with without false is = rw is (without (ascends_earlier nat_cmp i_number_of nat_cmp_total b p ps up.0 up.1))

rows_in : (n : ℕ) (b : Option Pair) (ps : List Pair) → All IsPair ps → Ascends nat_cmp i_number_of b ps → FitRows (after_row (pair_row n)) b (filter (is_in n) ps)
unfolding Ascends FitRows
rows_in n b [] all up = tt
rows_in n b (p ∷ ps) all up =
    let rest = All-tail IsPair p ps all in
    rows_step n b p ps (All-head IsPair p ps all) up (rows_in n (Some p) ps rest up.1) (λ down. rows_in n b ps rest down) (is_in n p) refl

least : (n : ℕ) (b : Option Pair) (i : ℕ) → 64 * n ≤ i → above nat_cmp i_number_of b i ≡ true → least_key i_number_of (64 * n) b ≤ i
least n None i low up = low
least n (Some before) i low up = lt_from_less before.i_number i up

keys_ascend : (n : ℕ) → KeysAscend (pair_row n) i_number_of (64 * n) (64 * n + 64)
keys_ascend n = record {
  holds = λ b p fits.
      let here : p.i_number / 64 ≡ n = eqb-true _ _ fits.0.0.1 in
      (least n b p.i_number (omega arith) fits.0.1, omega arith);
}

pub few_pairs : (t : ITable) (n : ℕ) → IsTable t → length (chunk_of n t).pairs ≤ 64
few_pairs t n is =
    omega (arith, few_rows (pair_row n) i_number_of (64 * n) (64 * n + 64) (keys_ascend n) None (chunk_of n t).pairs (rows_in n None t.pairs is.of_pairs is.ascending) (omega arith))

chunk_fits : (t : ITable) (n : ℕ) → IsTable t → n < 64 → length (chunk_of n t).pairs ≢ 0 → chunk.Fits (chunk_of n t)
chunk_fits t n is small some =
    let few = few_pairs t n is in
    let least_one : 1 ≤ length (chunk_of n t).pairs = omega arith in (
      in_range_fits w8 0 63 n (omega arith) (omega arith) (omega arith),
      (in_range_fits w8 1 64 (length (chunk_of n t).pairs) (omega arith) least_one few, (refl, rows_in n None t.pairs is.of_pairs is.ascending)),
    )

-- its text is read as it
pub chunk_reads : (t : ITable) (n : ℕ) → IsTable t → n < 64 → IfSome (text_of_chunk t n) (λ text. whole chunk text ≡ Ok (chunk_of n t))
unfolding text_of_chunk
chunk_reads t n is small =
    elim (cases_eq (length (chunk_of n t).pairs) 0) [
      | inl e ↦ rw (eq-eqb (length (chunk_of n t).pairs) 0 e) tt
      | inr e ↦ rw (ne_eqb (length (chunk_of n t).pairs) 0 e) (whole_again chunk lawful_chunk (chunk_of n t) (chunk_fits t n is small e))
    ]

-- ---- what a chunk says

found_step : (i : ℕ) (p : Pair) (ps : List Pair) → row_at nat_cmp i_number_of ps i ≡ row_at nat_cmp i_number_of (filter (is_in (chunk_number i)) ps) i
    → (t k : Bool) → is_eq (nat_cmp p.i_number i) ≡ t → is_in (chunk_number i) p ≡ k → row_at nat_cmp i_number_of (p ∷ ps) i ≡ row_at nat_cmp i_number_of (filter (is_in (chunk_number i)) (p ∷ ps)) i
found_step i p ps later true true is in_it = rw (is, in_it) (rw is refl)
found_step i p ps later true false is in_it =
    let same = same_key p.i_number i is in
    let other : is_in (chunk_number i) p ≡ true = eq-eqb (chunk_number p.i_number) (chunk_number i) (ap chunk_number same) in
    absurd cc
found_step i p ps later false true is in_it = rw (is, in_it) (rw is later)
found_step i p ps later false false is in_it = rw (is, in_it) later

found_in : (i : ℕ) (ps : List Pair) → row_at nat_cmp i_number_of ps i ≡ row_at nat_cmp i_number_of (filter (is_in (chunk_number i)) ps) i
found_in i [] = refl
found_in i (p ∷ ps) = found_step i p ps (found_in i ps) (is_eq (nat_cmp p.i_number i)) (is_in (chunk_number i) p) refl refl

-- the digest at an i-number is the one that its chunk has there
pub in_chunk : (t : ITable) (i : ℕ) → digest_at t i ≡ option_map (λ p. p.digest) (row_at nat_cmp i_number_of (chunk_of (chunk_number i) t).pairs i)
in_chunk t i = ap (option_map (λ p. p.digest)) (found_in i t.pairs)

pub found_first : (p : Pair) (ps : List Pair) → row_at nat_cmp i_number_of (p ∷ ps) p.i_number ≡ Some p
found_first p ps = let same : is_eq (nat_cmp p.i_number p.i_number) ≡ true = grind (arith, nat_tests) in rw same refl

no_pairs : (t : ITable) (n : ℕ) → ((i : ℕ) → chunk_number i ≡ n → digest_at t i ≡ None) → (ps : List Pair) → (chunk_of n t).pairs ≡ ps → length ps ≡ 0
no_pairs t n none [] is = refl
no_pairs t n none (p ∷ ps) is =
    let passes = subst (λ (qs : List Pair). All (λ q. is_in n q ≡ true) qs) is (filter_passes (is_in n) t.pairs) in
    let here : chunk_number p.i_number ≡ n = eqb-true _ _ (All-head (λ q. is_in n q ≡ true) p ps passes) in
    let found : row_at nat_cmp i_number_of (chunk_of (chunk_number p.i_number) t).pairs p.i_number ≡ Some p = rw (here, is) (found_first p ps) in
    let some : digest_at t p.i_number ≡ Some p.digest = in_chunk t p.i_number ∙ ap (option_map (λ q. q.digest)) found in
    let clash = none p.i_number here in
    absurd cc

-- a chunk has no text exactly where none of its i-numbers has a digest
pub no_text : (t : ITable) (n : ℕ) → (text_of_chunk t n ≡ None) ↔ ((i : ℕ) → chunk_number i ≡ n → digest_at t i ≡ None)
unfolding text_of_chunk
no_text t n =
    elim (cases_eq (length (chunk_of n t).pairs) 0) [
      | inl e ↦ rw (eq-eqb (length (chunk_of n t).pairs) 0 e) (
        λ same i here.
            let nothing : (chunk_of (chunk_number i) t).pairs ≡ [] = rw here (nil_from_length (chunk_of n t).pairs e) in
            in_chunk t i ∙ ap (λ (ps : List Pair). option_map (λ p. p.digest) (row_at nat_cmp i_number_of ps i)) nothing,
        λ none. refl,
      )
      | inr e ↦ rw (ne_eqb (length (chunk_of n t).pairs) 0 e) (λ same. absurd cc, λ none. absurd (e (no_pairs t n none (chunk_of n t).pairs refl)))
    ]

-- ---- the text, by the pairs that a run has

pub text_none : (t : ITable) (n : ℕ) (ps : List Pair) → ps ≡ (chunk_of n t).pairs → length ps ≡ 0 → text_of_chunk t n ≡ None
unfolding text_of_chunk
text_none t n ps is none = rw (← is) (rw (eq-eqb (length ps) 0 none) refl)

pub text_some : (t : ITable) (n : ℕ) (ps : List Pair) → ps ≡ (chunk_of n t).pairs → length ps ≢ 0 → text_of_chunk t n ≡ Some (chunk.spell (record { number = n; pairs = ps }))
unfolding text_of_chunk
text_some t n ps is some = rw (← is) (rw (ne_eqb (length ps) 0 some) refl)
