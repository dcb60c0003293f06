-- Bytes of numbers, and bytes written one after another.
use Rattle.std.proofs.Common.{subst, ◌≡◌, ℕ, ◌+◌, ◌%◌, ◌<◌, List, [], ◌∷◌, ◌++◌, length, take, ap, ◌∙◌, arith}
use Rattle.std.specs.Int.{w8}
use Rattle.layout.specs.Format.{be}

pub be-byte : (n : ℕ) → n < 256 → be w8 n ≡ n ∷ []
unfolding be
be-byte n lt = let same : n % 256 ≡ n = omega arith in ap (λ (k : ℕ). k ∷ []) same

-- what is written after the first bytes of a buffer
pub grown : (was now p bytes : List ℕ) (at size : ℕ) → take (at + length bytes) now ≡ take at was ++ bytes → length bytes ≡ size → take at was ≡ p → take (at + size) now ≡ p ++ bytes
grown was now p bytes at size wrote len front = subst (λ n. take (at + n) now ≡ p ++ bytes) len (wrote ∙ ap (λ (f : List ℕ). f ++ bytes) front)
