-- Digests one after another, cut where they lie.
use Rattle.std.proofs.Common.{◌≡◌, ℕ, zero, suc, ◌+◌, ◌*◌, ◌<◌, ◌≤◌, List, ◌∷◌, length, take, drop, Option, Some, None, Ok, Err, refl, ap, ◌∙◌, sym, inl, inr, arith}
use Rattle.std.specs.Simd.{first_chunks}
use Rattle.std.proofs.lemmas.Bool.{cases_lt, le-ltb, lt-ltb}
use Rattle.std.proofs.lemmas.List.{drop-drop, drop-take, length-drop, take-take}
use Rattle.layout.specs.Types.{Bytes}
use Rattle.layout.specs.declared.error.ReadError.{ReadError}
use Rattle.layout.specs.declared.error.ReadError.TheVariants.{Short}
use Rattle.layout.specs.Format.{Answer, ◌>>=◌, after_row, raw, read_rows}

-- so many digests, as they lie at the front of bytes
abbrev pub cut : ℕ → Bytes → Answer (List Bytes)
cut n bytes = (raw (n * 32)).read bytes >>= λ x. Ok (first_chunks 32 n x.0, x.1)

-- what is read where there are enough
cut_whole : (n : ℕ) (bytes : Bytes) → n * 32 ≤ length bytes → cut n bytes ≡ Ok (first_chunks 32 n (take (n * 32) bytes), drop (n * 32) bytes)
cut_whole n bytes long = rw (le-ltb (length bytes) (n * 32) long) refl

cut_short : (n : ℕ) (bytes : Bytes) → length bytes < n * 32 → cut n bytes ≡ Err Short
cut_short n bytes short = rw (lt-ltb (length bytes) (n * 32) short) refl

-- the first of them, and those after it
cut_next : (n : ℕ) (bytes : Bytes) → first_chunks 32 (suc n) (take (suc n * 32) bytes) ≡ take 32 bytes ∷ first_chunks 32 n (take (n * 32) (drop 32 bytes))
cut_next n bytes =
    let more : suc n * 32 ≡ 32 + n * 32 = omega arith in
    let one : take 32 (take (32 + n * 32) bytes) ≡ take 32 bytes = take-take 32 (32 + n * 32) bytes (omega arith) in
    let rest : drop 32 (take (32 + n * 32) bytes) ≡ take (n * 32) (drop 32 bytes) = drop-take 32 (n * 32) bytes in
    ap (λ (m : ℕ). first_chunks 32 (suc n) (take m bytes)) more ∙ rw (one, rest) refl

drop_next : (n : ℕ) (bytes : Bytes) → drop (suc n * 32) bytes ≡ drop (n * 32) (drop 32 bytes)
drop_next n bytes =
    let more : suc n * 32 ≡ 32 + n * 32 = omega arith in
    ap (λ (m : ℕ). drop m bytes) more ∙ sym (drop-drop (n * 32) 32 bytes)

-- rows of 32 bytes are read so
rows_are_cut : (n : ℕ) (before : Option Bytes) (bytes : Bytes) → read_rows (after_row (λ _. raw 32)) n before bytes ≡ cut n bytes
unfolding read_rows
rows_are_cut zero before bytes = sym (cut_whole zero bytes (omega arith))
rows_are_cut (suc n) before bytes =
    elim (cases_lt (length bytes) 32) [
      | inl short ↦ rw (lt-ltb (length bytes) 32 short) (sym (cut_short (suc n) bytes (omega arith)))
      | inr long ↦ rw (le-ltb (length bytes) 32 long, rows_are_cut n (Some (take 32 bytes)) (drop 32 bytes)) (elim (cases_lt (length (drop 32 bytes)) (n * 32)) [
        | inl short ↦ rw (cut_short n (drop 32 bytes) short) (sym (cut_short (suc n) bytes (omega (arith, length-drop 32 bytes))))
        | inr enough ↦ rw (cut_whole n (drop 32 bytes) enough, cut_whole (suc n) bytes (omega (arith, length-drop 32 bytes)), cut_next n bytes, drop_next n bytes) refl
      ])
    ]

-- where as many bytes are read, they are cut into the rows
pub cut_reads : (n : ℕ) (bytes x rest : Bytes) → (raw (n * 32)).read bytes ≡ Ok (x, rest) → read_rows (after_row (λ _. raw 32)) n None bytes ≡ Ok (first_chunks 32 n x, rest)
cut_reads n bytes x rest reads = rows_are_cut n None bytes ∙ rw reads refl

-- and where they aren't there, neither are the rows
pub cut_fails : (n : ℕ) (bytes : Bytes) (fault : ReadError) → (raw (n * 32)).read bytes ≡ Err fault → read_rows (after_row (λ _. raw 32)) n None bytes ≡ Err fault
cut_fails n bytes fault fails = rows_are_cut n None bytes ∙ rw fails refl
