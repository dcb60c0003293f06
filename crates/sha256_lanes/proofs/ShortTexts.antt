-- The words of a text of 55 bytes, with its padding.
use Rattle.std.proofs.Common.{◌≡◌, ℕ, zero, suc, ◌+◌, ◌*◌, ◌/◌, ◌%◌, ◌^◌, ◌<◌, List, [], ◌∷◌, length, drop, slice_index, refl, ap, ◌∙◌, arith}
use Rattle.std.proofs.lemmas.List.{drop_all, drop_more}
use lib.Lanes.{Each1}
use Rattle.std.specs.Int.{from_be_bytes, to_be_bytes, w32}
use Rattle.sha2.specs.Sha256.{add32, compress, digest_bytes, first_words, hash_after, initial_hash_256, padded_message, sha256, word_at}
use Rattle.sha256_lanes.specs.Lanes.{AreWords, short_text}

-- a word of three bytes of one and the first byte of another
abbrev pub joined : ℕ → ℕ → ℕ
joined x y = (x * 2 ^ 8 % 2 ^ 32 + y / 2 ^ 24) % 2 ^ 32

whole : (x : ℕ) → x < 2 ^ 32 → from_be_bytes w32 (to_be_bytes w32 x) ≡ x
whole x fits = omega arith

across : (x y : ℕ) → x < 2 ^ 32 → y < 2 ^ 32
    → from_be_bytes w32 (slice_index (to_be_bytes w32 x) 1 ∷ slice_index (to_be_bytes w32 x) 2 ∷ slice_index (to_be_bytes w32 x) 3 ∷ slice_index (to_be_bytes w32 y) 0 ∷ []) ≡ joined x y
across x y fits fits' = omega arith

marked : (m y : ℕ) → m < 2 ^ 24 → y < 2 ^ 32
    → from_be_bytes w32 (m / 65536 ∷ m / 256 % 256 ∷ m % 256 ∷ slice_index (to_be_bytes w32 y) 0 ∷ []) ≡ joined m y
marked m y fits fits' = omega arith

ended : (x : ℕ) → x < 2 ^ 32
    → from_be_bytes w32 (slice_index (to_be_bytes w32 x) 1 ∷ slice_index (to_be_bytes w32 x) 2 ∷ slice_index (to_be_bytes w32 x) 3 ∷ 0x80 ∷ []) ≡ (x * 2 ^ 8 % 2 ^ 32 + 0x80) % 2 ^ 32
ended x fits = omega arith

-- a list of 16 is its elements
spelled : (xs : List ℕ) → length xs ≡ 16
    → xs ≡ slice_index xs 0 ∷ slice_index xs 1 ∷ slice_index xs 2 ∷ slice_index xs 3 ∷ slice_index xs 4 ∷ slice_index xs 5 ∷ slice_index xs 6 ∷ slice_index xs 7
    ∷ slice_index xs 8 ∷ slice_index xs 9 ∷ slice_index xs 10 ∷ slice_index xs 11 ∷ slice_index xs 12 ∷ slice_index xs 13 ∷ slice_index xs 14 ∷ slice_index xs 15 ∷ []
spelled xs long =
    let more : (k : ℕ) → k < 16 → drop k xs ≡ slice_index xs k ∷ drop (k + 1) xs = λ k lt. drop_more xs k 0 (omega arith) in
    let from15 = more 15 (omega arith) ∙ ap (λ (l : List ℕ). slice_index xs 15 ∷ l) (drop_all 16 xs (omega arith)) in
    let from14 = more 14 (omega arith) ∙ ap (λ (l : List ℕ). slice_index xs 14 ∷ l) from15 in
    let from13 = more 13 (omega arith) ∙ ap (λ (l : List ℕ). slice_index xs 13 ∷ l) from14 in
    let from12 = more 12 (omega arith) ∙ ap (λ (l : List ℕ). slice_index xs 12 ∷ l) from13 in
    let from11 = more 11 (omega arith) ∙ ap (λ (l : List ℕ). slice_index xs 11 ∷ l) from12 in
    let from10 = more 10 (omega arith) ∙ ap (λ (l : List ℕ). slice_index xs 10 ∷ l) from11 in
    let from9 = more 9 (omega arith) ∙ ap (λ (l : List ℕ). slice_index xs 9 ∷ l) from10 in
    let from8 = more 8 (omega arith) ∙ ap (λ (l : List ℕ). slice_index xs 8 ∷ l) from9 in
    let from7 = more 7 (omega arith) ∙ ap (λ (l : List ℕ). slice_index xs 7 ∷ l) from8 in
    let from6 = more 6 (omega arith) ∙ ap (λ (l : List ℕ). slice_index xs 6 ∷ l) from7 in
    let from5 = more 5 (omega arith) ∙ ap (λ (l : List ℕ). slice_index xs 5 ∷ l) from6 in
    let from4 = more 4 (omega arith) ∙ ap (λ (l : List ℕ). slice_index xs 4 ∷ l) from5 in
    let from3 = more 3 (omega arith) ∙ ap (λ (l : List ℕ). slice_index xs 3 ∷ l) from4 in
    let from2 = more 2 (omega arith) ∙ ap (λ (l : List ℕ). slice_index xs 2 ∷ l) from3 in
    let from1 = more 1 (omega arith) ∙ ap (λ (l : List ℕ). slice_index xs 1 ∷ l) from2 in
    more 0 (omega arith) ∙ ap (λ (l : List ℕ). slice_index xs 0 ∷ l) from1

-- the 16 words of the block
abbrev pub words : List ℕ → ℕ → ℕ → List ℕ → List ℕ
words p n m v =
    word_at p 0 ∷ word_at p 4 ∷ word_at p 8 ∷ word_at p 12 ∷ n
    ∷ joined m (slice_index v 0) ∷ joined (slice_index v 0) (slice_index v 1) ∷ joined (slice_index v 1) (slice_index v 2)
    ∷ joined (slice_index v 2) (slice_index v 3) ∷ joined (slice_index v 3) (slice_index v 4) ∷ joined (slice_index v 4) (slice_index v 5)
    ∷ joined (slice_index v 5) (slice_index v 6) ∷ joined (slice_index v 6) (slice_index v 7)
    ∷ ((slice_index v 7 * 2 ^ 8 % 2 ^ 32 + 0x80) % 2 ^ 32) ∷ 0 ∷ 440 ∷ []

module _ (a b c d e f g h a' b' c' d' e' f' g' h' n m : ℕ) (v : List ℕ) (fits_n : n < 2 ^ 32) (fits_m : m < 2 ^ 24) (fits : AreWords v) where
  abbrev prefix : List ℕ
  prefix = a ∷ b ∷ c ∷ d ∷ e ∷ f ∷ g ∷ h ∷ a' ∷ b' ∷ c' ∷ d' ∷ e' ∷ f' ∷ g' ∷ h' ∷ []

  words_of_spelled : first_words (padded_message (short_text prefix n m (digest_bytes v 8))) 16 ≡ words prefix n m v
  unfolding first_words digest_bytes
  words_of_spelled = λ i.
      word_at prefix 0 ∷ word_at prefix 4 ∷ word_at prefix 8 ∷ word_at prefix 12 ∷ whole n fits_n i
      ∷ marked m (slice_index v 0) fits_m (fits 0) i
      ∷ across (slice_index v 0) (slice_index v 1) (fits 0) (fits 1) i ∷ across (slice_index v 1) (slice_index v 2) (fits 1) (fits 2) i
      ∷ across (slice_index v 2) (slice_index v 3) (fits 2) (fits 3) i ∷ across (slice_index v 3) (slice_index v 4) (fits 3) (fits 4) i
      ∷ across (slice_index v 4) (slice_index v 5) (fits 4) (fits 5) i ∷ across (slice_index v 5) (slice_index v 6) (fits 5) (fits 6) i
      ∷ across (slice_index v 6) (slice_index v 7) (fits 6) (fits 7) i
      ∷ ended (slice_index v 7) (fits 7) i ∷ 0 ∷ 440 ∷ []

  -- its digest is that of one block
  digest_of_spelled : sha256 (short_text prefix n m (digest_bytes v 8)) ≡ digest_bytes (compress initial_hash_256 (padded_message (short_text prefix n m (digest_bytes v 8)))) 8
  unfolding sha256 hash_after digest_bytes
  digest_of_spelled = refl

pub words_are : (p : List ℕ) (n m : ℕ) (v : List ℕ) → length p ≡ 16 → n < 2 ^ 32 → m < 2 ^ 24 → AreWords v
    → first_words (padded_message (short_text p n m (digest_bytes v 8))) 16 ≡ words p n m v
words_are p n m v long fits_n fits_m fits = rw (spelled p long) (words_of_spelled _ _ _ _ _ _ _ _ _ _ _ _ _ _ _ _ n m v fits_n fits_m fits)

pub digest_is : (p : List ℕ) (n m : ℕ) (v : List ℕ) → length p ≡ 16 → n < 2 ^ 32 → m < 2 ^ 24 → AreWords v
    → sha256 (short_text p n m (digest_bytes v 8)) ≡ digest_bytes (compress initial_hash_256 (padded_message (short_text p n m (digest_bytes v 8)))) 8
digest_is p n m v long fits_n fits_m fits = rw (spelled p long) (digest_of_spelled _ _ _ _ _ _ _ _ _ _ _ _ _ _ _ _ n m v fits_n fits_m fits)

-- elements that are words
pub words_of : (xs : List ℕ) → Each1 (λ x. x < 2 ^ 32) xs → AreWords xs
words_of [] each k = omega arith
words_of (x ∷ xs) each zero = each.0
words_of (x ∷ xs) each (suc k) = words_of xs each.1 k

-- the words of a hash value are words
pub are_words : (h b : List ℕ) → AreWords (compress h b)
unfolding compress
are_words h b =
    let small : (x y : ℕ) → add32 x y < 2 ^ 32 = λ x y. omega arith in
    words_of (compress h b) (small _ _, (small _ _, (small _ _, (small _ _, (small _ _, (small _ _, (small _ _, (small _ _, tt))))))))
