-- A file in blocks: one block after the other, and all of them together.
use Rattle.std.proofs.Common.{◌≡◌, ℕ, zero, suc, ◌+◌, ◌*◌, ◌<◌, min, List, [], ◌∷◌, ◌++◌, length, take, drop, refl, sym, ap, ◌∙◌, inl, inr, arith, append_assoc, length-append}
use Rattle.std.proofs.lemmas.Bool.{cases_lt}
use Rattle.std.proofs.lemmas.List.{append-nil, nil_from_length, take_at, drop_at, take_all, drop_all, take-append-drop, length-take-le, length-drop}
use Rattle.itable.specs.Inode.{block_count}
use Rattle.itable.specs.File.{pieces, blocks_of}

-- there is no block of no bytes
pub no_block : (bytes : List ℕ) → length bytes ≡ 0 → blocks_of bytes ≡ []
unfolding pieces
no_block bytes none =
    let count : block_count (length bytes) ≡ 0 = omega arith in
    rw count refl

one_more : (n block rest : ℕ) → n ≡ block + rest → block ≡ min 4096 n → 0 < n → block_count n ≡ suc (block_count rest)
one_more n block rest whole is some = omega arith

front : (bytes block rest : List ℕ) → bytes ≡ block ++ rest → length block ≡ min 4096 (length bytes) → (take 4096 bytes ≡ block) × (drop 4096 bytes ≡ rest)
front bytes block rest whole is =
    let all : length bytes ≡ length block + length rest = omega (arith, ap length whole, length-append block rest) in
    elim (cases_lt (length block) 4096) [
      | inl lt ↦ (
          let nothing : rest ≡ [] = nil_from_length rest (omega arith) in
          let same : bytes ≡ block = whole ∙ ap (λ (r : List ℕ). block ++ r) nothing ∙ append-nil block in
          (ap (take 4096) same ∙ take_all 4096 block (omega arith), ap (drop 4096) same ∙ drop_all 4096 block (omega arith) ∙ sym nothing))
      | inr le ↦ (
          let full : length block ≡ 4096 = omega arith in
          (ap (take 4096) whole ∙ take_at block rest 4096 full, ap (drop 4096) whole ∙ drop_at block rest 4096 full))
    ]

-- the first block, and those of the bytes after it
pub next_block : (bytes block rest : List ℕ) → bytes ≡ block ++ rest → length block ≡ min 4096 (length bytes) → 0 < length bytes → blocks_of bytes ≡ block ∷ blocks_of rest
unfolding pieces
next_block bytes block rest whole is some =
    let f = front bytes block rest whole is in
    let all : length bytes ≡ length block + length rest = omega (arith, ap length whole, length-append block rest) in
    let count : block_count (length bytes) ≡ suc (block_count (length rest)) = one_more (length bytes) (length block) (length rest) all is some in
    rw count (rw (f.0, f.1) refl)

-- one more of what is made in order
pub one_on : {X : Type 0} (old new : List X) (x : X) (rest all : List X) → new ≡ old ++ x ∷ [] → old ++ x ∷ rest ≡ all → new ++ rest ≡ all
one_on {X} old new x rest all is whole = ap (λ (front : List X). front ++ rest) is ∙ append_assoc old (x ∷ []) rest ∙ whole

-- whole blocks, and those of the bytes after them
pub blocks_after : (count : ℕ) (bytes rest : List ℕ) → length bytes ≡ count * 4096 → blocks_of (bytes ++ rest) ≡ blocks_of bytes ++ blocks_of rest
blocks_after zero bytes rest none =
    let empty : bytes ≡ [] = nil_from_length bytes (omega arith) in
    rw (no_block bytes (omega arith)) (ap (λ (l : List ℕ). blocks_of (l ++ rest)) empty)
blocks_after (suc count) bytes rest some =
    let block : List ℕ = take 4096 bytes in
    let left : List ℕ = drop 4096 bytes in
    let cut : bytes ≡ block ++ left = sym (take-append-drop 4096 bytes) in
    let width : length block ≡ 4096 = length-take-le 4096 bytes (omega arith) in
    let long : length left ≡ count * 4096 = omega (arith, length-drop 4096 bytes) in
    let all : length (bytes ++ rest) ≡ length bytes + length rest = length-append bytes rest in
    next_block (bytes ++ rest) block (left ++ rest) (ap (λ (l : List ℕ). l ++ rest) cut ∙ append_assoc block left rest) (omega arith) (omega arith)
    ∙ ap (λ (bs : List (List ℕ)). block ∷ bs) (blocks_after count left rest long)
    ∙ ap (λ (bs : List (List ℕ)). bs ++ blocks_of rest) (sym (next_block bytes block left cut (omega arith) (omega arith)))
