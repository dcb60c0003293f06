-- Nobody has to believe this file: laws, which are proved.
-- A digest fits where a text has one: it has 32 bytes, and they are bytes. This is all that is known of it above.
use Rattle.std.proofs.Common.{ℕ, zero, suc, ◌-◌, List, [], ◌∷◌, ◌++◌, length, inl, inr, arith}
use Rattle.std.specs.Int.{w32, to_be_bytes}
use Rattle.std.specs.Prelude.{◌≡◌, slice_index, refl}
use Rattle.std.proofs.lemmas.Bool.{cases_lt}
use Rattle.std.proofs.lemmas.List.{get_or_append_left}
use Rattle.std.proofs.Math.Seq.{get_or-append_right}
use Rattle.sha2.specs.Sha256.{sha256, digest_bytes}
use Rattle.layout.specs.Format.{IsBytes, raw}
use Rattle.layout.specs.Hash.{hash}

-- a digest has 32 bytes
pub length-hash : (bytes : List ℕ) → length (hash bytes) ≡ 32
unfolding hash sha256 digest_bytes
length-hash bytes = refl

bytes_joined : (xs ys : List ℕ) → IsBytes xs → IsBytes ys → IsBytes (xs ++ ys)
bytes_joined xs ys first second i =
    elim (cases_lt i (length xs)) [
      | inl lt ↦ rw (get_or_append_left xs ys 0 i lt) (first i)
      | inr le ↦ rw (get_or-append_right xs ys i 0 le) (second (i - length xs))
    ]

word_bytes : (n : ℕ) → IsBytes (to_be_bytes w32 n)
word_bytes n zero = omega arith
word_bytes n (suc zero) = omega arith
word_bytes n (suc (suc zero)) = omega arith
word_bytes n (suc (suc (suc zero))) = omega arith
word_bytes n (suc (suc (suc (suc i)))) = omega arith

words_are_bytes : (words : List ℕ) (n : ℕ) → IsBytes (digest_bytes words n)
unfolding digest_bytes
words_are_bytes words zero = λ i. omega arith
words_are_bytes words (suc n) = bytes_joined (digest_bytes words n) (to_be_bytes w32 (slice_index words n)) (words_are_bytes words n) (word_bytes (slice_index words n))

hash_is_bytes : (bytes : List ℕ) → IsBytes (hash bytes)
unfolding hash sha256
hash_is_bytes bytes = words_are_bytes _ 8

pub hash_fits : (bytes : List ℕ) → (raw 32).Fits (hash bytes)
hash_fits bytes = (length-hash bytes, hash_is_bytes bytes)
