-- Pieces joined one after another.
use Rattle.std.proofs.Common.{◌≡◌, ℕ, zero, suc, ◌+◌, ◌*◌, ◌<◌, List, [], ◌∷◌, ◌++◌, length, take, drop, inl, inr, sym, ap, ◌∙◌, append_assoc, length-append, arith}
use Rattle.std.proofs.lemmas.Bool.{cases_eq}
use Rattle.std.proofs.lemmas.List.{append-nil, take_at, drop_at}
use Rattle.std.proofs.lemmas.List.Concat.{flat_map-append}
use Rattle.std.specs.List.{flat_map, range_with_len}
use Rattle.lms_sign.specs.Hashing.{joined, part}
use Rattle.lms_sign.proofs.Writing.{grown}

range_more : (count : ℕ) (from : ℕ) → range_with_len from (suc count) ≡ range_with_len from count ++ (from + count) ∷ []
range_more zero from = let same : from ≡ from + 0 = omega arith in ap (λ n. n ∷ []) same
range_more (suc count) from =
    let same : from + 1 + count ≡ from + suc count = omega arith in
    ap (λ (l : List ℕ). from ∷ l) (range_more count (from + 1) ∙ ap (λ n. range_with_len (from + 1) count ++ n ∷ []) same)

pub joined_none : (head : List ℕ) (piece : ℕ → List ℕ) → head ++ joined 0 piece ≡ head
unfolding joined
joined_none head piece = append-nil head

pub joined_more : (count : ℕ) (piece : ℕ → List ℕ) → joined (suc count) piece ≡ joined count piece ++ piece count
unfolding joined
joined_more count piece =
    let last : 0 + count ≡ count = omega arith in
    ap (flat_map piece) (range_more count 0) ∙ flat_map-append piece (range_with_len 0 count) ((0 + count) ∷ [])
    ∙ ap (λ (l : List ℕ). joined count piece ++ l) (append-nil (piece (0 + count)) ∙ ap piece last)

-- the next piece after those that stand after a head
pub joined_on : (head bytes : List ℕ) (piece : ℕ → List ℕ) (count : ℕ) → bytes ≡ piece count → (head ++ joined count piece) ++ bytes ≡ head ++ joined (count + 1) piece
joined_on head bytes piece count is =
    let next : suc count ≡ count + 1 = omega arith in
    append_assoc head (joined count piece) bytes ∙ ap (λ (l : List ℕ). head ++ (joined count piece ++ l)) is ∙ ap (λ (l : List ℕ). head ++ l) (sym (joined_more count piece))
    ∙ ap (λ n. head ++ joined n piece) next

-- the next piece, written into a buffer after those before it
pub joined_grown : (was now head bytes : List ℕ) (piece : ℕ → List ℕ) (at count : ℕ) → take (at + 32 * count + length bytes) now ≡ take (at + 32 * count) was ++ bytes → length bytes ≡ 32 → take (at + 32 * count) was ≡ head ++ joined count piece → bytes ≡ piece count
    → take (at + 32 * (count + 1)) now ≡ head ++ joined (count + 1) piece
joined_grown was now head bytes piece at count wrote size before is =
    let end : at + 32 * (count + 1) ≡ at + 32 * count + 32 = omega arith in
    ap (λ n. take n now) end ∙ grown was now (head ++ joined count piece) bytes (at + 32 * count) 32 wrote size before ∙ joined_on head bytes piece count is

-- pieces that are the same, joined
pub joined_same : (count : ℕ) (piece other : ℕ → List ℕ) → ((k : ℕ) → k < count → piece k ≡ other k) → joined count piece ≡ joined count other
joined_same zero piece other same = joined_none [] piece ∙ sym (joined_none [] other)
joined_same (suc count) piece other same =
    joined_more count piece ∙ ap (λ (l : List ℕ). l ++ piece count) (joined_same count piece other (λ k lt. same k (omega arith)))
    ∙ ap (λ (l : List ℕ). joined count other ++ l) (same count (omega arith)) ∙ sym (joined_more count other)

pub length-joined : (count : ℕ) (piece : ℕ → List ℕ) → ((k : ℕ) → length (piece k) ≡ 32) → length (joined count piece) ≡ 32 * count
length-joined zero piece sizes = ap length (joined_none [] piece)
length-joined (suc count) piece sizes = omega (arith, ap length (joined_more count piece), length-append (joined count piece) (piece count), length-joined count piece sizes, sizes count)

-- what stands between two texts
pub part_of : (before piece after : List ℕ) (at size : ℕ) → length before ≡ at → length piece ≡ size → part at size (before ++ piece ++ after) ≡ piece
part_of before piece after at size place len =
    ap (λ (l : List ℕ). take size (drop at l)) (append_assoc before piece after) ∙ ap (take size) (drop_at before (piece ++ after) at place) ∙ take_at piece after size len

-- one of the pieces between two texts
pub joined_part : (count : ℕ) (before after : List ℕ) (piece : ℕ → List ℕ) (at i : ℕ) → ((k : ℕ) → length (piece k) ≡ 32) → length before ≡ at → i < count → part (at + 32 * i) 32 (before ++ joined count piece ++ after) ≡ piece i
joined_part zero before after piece at i sizes place lt = absurd (omega arith)
joined_part (suc count) before after piece at i sizes place lt =
    let split : before ++ joined (suc count) piece ++ after ≡ before ++ joined count piece ++ (piece count ++ after) =
    ap (λ (l : List ℕ). before ++ l ++ after) (joined_more count piece) ∙ simp append_assoc in
    elim (cases_eq i count) [
      | inl last ↦ let width : length (before ++ joined count piece) ≡ at + 32 * i = omega (arith, length-append before (joined count piece), length-joined count piece sizes) in
          ap (part (at + 32 * i) 32) (split ∙ sym (append_assoc (before ++ joined count piece) (piece count) after))
          ∙ part_of (before ++ joined count piece) (piece count) after (at + 32 * i) 32 width (sizes count) ∙ ap piece (sym last)
      | inr other ↦ ap (part (at + 32 * i) 32) split ∙ joined_part count before (piece count ++ after) piece at i sizes place (omega arith)
    ]
