-- A value of 32 bytes, from its words.
use Rattle.std.proofs.Common.{◌≡◌, ℕ, ◌+◌, ◌<◌, List, [], ◌∷◌, length, drop, slice_index, sym, ap, ◌∙◌, arith}
use Rattle.std.proofs.lemmas.List.{drop_all, drop_more}
use Rattle.std.specs.Int.{from_be_bytes, to_be_bytes, w32}
use Rattle.sha2.specs.Sha256.{digest_bytes, word_at}

first : (a b c d : ℕ) → a < 256 → b < 256 → c < 256 → d < 256 → slice_index (to_be_bytes w32 (from_be_bytes w32 (a ∷ b ∷ c ∷ d ∷ []))) 0 ≡ a
first a b c d ha hb hc hd = omega arith

second : (a b c d : ℕ) → a < 256 → b < 256 → c < 256 → d < 256 → slice_index (to_be_bytes w32 (from_be_bytes w32 (a ∷ b ∷ c ∷ d ∷ []))) 1 ≡ b
second a b c d ha hb hc hd = omega arith

third : (a b c d : ℕ) → a < 256 → b < 256 → c < 256 → d < 256 → slice_index (to_be_bytes w32 (from_be_bytes w32 (a ∷ b ∷ c ∷ d ∷ []))) 2 ≡ c
third a b c d ha hb hc hd = omega arith

fourth : (a b c d : ℕ) → a < 256 → b < 256 → c < 256 → d < 256 → slice_index (to_be_bytes w32 (from_be_bytes w32 (a ∷ b ∷ c ∷ d ∷ []))) 3 ≡ d
fourth a b c d ha hb hc hd = omega arith

-- a list of 32 is its elements
spelled : (xs : List ℕ) → length xs ≡ 32
    → xs ≡ slice_index xs 0 ∷ slice_index xs 1 ∷ slice_index xs 2 ∷ slice_index xs 3 ∷ slice_index xs 4 ∷ slice_index xs 5 ∷ slice_index xs 6 ∷ slice_index xs 7
    ∷ slice_index xs 8 ∷ slice_index xs 9 ∷ slice_index xs 10 ∷ slice_index xs 11 ∷ slice_index xs 12 ∷ slice_index xs 13 ∷ slice_index xs 14 ∷ slice_index xs 15
    ∷ slice_index xs 16 ∷ slice_index xs 17 ∷ slice_index xs 18 ∷ slice_index xs 19 ∷ slice_index xs 20 ∷ slice_index xs 21 ∷ slice_index xs 22 ∷ slice_index xs 23
    ∷ slice_index xs 24 ∷ slice_index xs 25 ∷ slice_index xs 26 ∷ slice_index xs 27 ∷ slice_index xs 28 ∷ slice_index xs 29 ∷ slice_index xs 30 ∷ slice_index xs 31 ∷ []
spelled xs long =
    let more : (k : ℕ) → k < 32 → drop k xs ≡ slice_index xs k ∷ drop (k + 1) xs = λ k lt. drop_more xs k 0 (omega arith) in
    let from31 = more 31 (omega arith) ∙ ap (λ (l : List ℕ). slice_index xs 31 ∷ l) (drop_all 32 xs (omega arith)) in
    let from30 = more 30 (omega arith) ∙ ap (λ (l : List ℕ). slice_index xs 30 ∷ l) from31 in
    let from29 = more 29 (omega arith) ∙ ap (λ (l : List ℕ). slice_index xs 29 ∷ l) from30 in
    let from28 = more 28 (omega arith) ∙ ap (λ (l : List ℕ). slice_index xs 28 ∷ l) from29 in
    let from27 = more 27 (omega arith) ∙ ap (λ (l : List ℕ). slice_index xs 27 ∷ l) from28 in
    let from26 = more 26 (omega arith) ∙ ap (λ (l : List ℕ). slice_index xs 26 ∷ l) from27 in
    let from25 = more 25 (omega arith) ∙ ap (λ (l : List ℕ). slice_index xs 25 ∷ l) from26 in
    let from24 = more 24 (omega arith) ∙ ap (λ (l : List ℕ). slice_index xs 24 ∷ l) from25 in
    let from23 = more 23 (omega arith) ∙ ap (λ (l : List ℕ). slice_index xs 23 ∷ l) from24 in
    let from22 = more 22 (omega arith) ∙ ap (λ (l : List ℕ). slice_index xs 22 ∷ l) from23 in
    let from21 = more 21 (omega arith) ∙ ap (λ (l : List ℕ). slice_index xs 21 ∷ l) from22 in
    let from20 = more 20 (omega arith) ∙ ap (λ (l : List ℕ). slice_index xs 20 ∷ l) from21 in
    let from19 = more 19 (omega arith) ∙ ap (λ (l : List ℕ). slice_index xs 19 ∷ l) from20 in
    let from18 = more 18 (omega arith) ∙ ap (λ (l : List ℕ). slice_index xs 18 ∷ l) from19 in
    let from17 = more 17 (omega arith) ∙ ap (λ (l : List ℕ). slice_index xs 17 ∷ l) from18 in
    let from16 = more 16 (omega arith) ∙ ap (λ (l : List ℕ). slice_index xs 16 ∷ l) from17 in
    let from15 = more 15 (omega arith) ∙ ap (λ (l : List ℕ). slice_index xs 15 ∷ l) from16 in
    let from14 = more 14 (omega arith) ∙ ap (λ (l : List ℕ). slice_index xs 14 ∷ l) from15 in
    let from13 = more 13 (omega arith) ∙ ap (λ (l : List ℕ). slice_index xs 13 ∷ l) from14 in
    let from12 = more 12 (omega arith) ∙ ap (λ (l : List ℕ). slice_index xs 12 ∷ l) from13 in
    let from11 = more 11 (omega arith) ∙ ap (λ (l : List ℕ). slice_index xs 11 ∷ l) from12 in
    let from10 = more 10 (omega arith) ∙ ap (λ (l : List ℕ). slice_index xs 10 ∷ l) from11 in
    let from9 = more 9 (omega arith) ∙ ap (λ (l : List ℕ). slice_index xs 9 ∷ l) from10 in
    let from8 = more 8 (omega arith) ∙ ap (λ (l : List ℕ). slice_index xs 8 ∷ l) from9 in
    let from7 = more 7 (omega arith) ∙ ap (λ (l : List ℕ). slice_index xs 7 ∷ l) from8 in
    let from6 = more 6 (omega arith) ∙ ap (λ (l : List ℕ). slice_index xs 6 ∷ l) from7 in
    let from5 = more 5 (omega arith) ∙ ap (λ (l : List ℕ). slice_index xs 5 ∷ l) from6 in
    let from4 = more 4 (omega arith) ∙ ap (λ (l : List ℕ). slice_index xs 4 ∷ l) from5 in
    let from3 = more 3 (omega arith) ∙ ap (λ (l : List ℕ). slice_index xs 3 ∷ l) from4 in
    let from2 = more 2 (omega arith) ∙ ap (λ (l : List ℕ). slice_index xs 2 ∷ l) from3 in
    let from1 = more 1 (omega arith) ∙ ap (λ (l : List ℕ). slice_index xs 1 ∷ l) from2 in
    more 0 (omega arith) ∙ ap (λ (l : List ℕ). slice_index xs 0 ∷ l) from1

pub value_of_words : (xs : List ℕ) → length xs ≡ 32 → ((k : ℕ) → slice_index xs k < 256)
    → digest_bytes (word_at xs 0 ∷ word_at xs 4 ∷ word_at xs 8 ∷ word_at xs 12 ∷ word_at xs 16 ∷ word_at xs 20 ∷ word_at xs 24 ∷ word_at xs 28 ∷ []) 8 ≡ xs
unfolding digest_bytes
value_of_words xs long fits =
    let e : (k : ℕ) → ℕ = λ k. slice_index xs k in
    (λ i. first (e 0) (e 1) (e 2) (e 3) (fits 0) (fits 1) (fits 2) (fits 3) i
    ∷ second (e 0) (e 1) (e 2) (e 3) (fits 0) (fits 1) (fits 2) (fits 3) i
    ∷ third (e 0) (e 1) (e 2) (e 3) (fits 0) (fits 1) (fits 2) (fits 3) i
    ∷ fourth (e 0) (e 1) (e 2) (e 3) (fits 0) (fits 1) (fits 2) (fits 3) i
    ∷ first (e 4) (e 5) (e 6) (e 7) (fits 4) (fits 5) (fits 6) (fits 7) i
    ∷ second (e 4) (e 5) (e 6) (e 7) (fits 4) (fits 5) (fits 6) (fits 7) i
    ∷ third (e 4) (e 5) (e 6) (e 7) (fits 4) (fits 5) (fits 6) (fits 7) i
    ∷ fourth (e 4) (e 5) (e 6) (e 7) (fits 4) (fits 5) (fits 6) (fits 7) i
    ∷ first (e 8) (e 9) (e 10) (e 11) (fits 8) (fits 9) (fits 10) (fits 11) i
    ∷ second (e 8) (e 9) (e 10) (e 11) (fits 8) (fits 9) (fits 10) (fits 11) i
    ∷ third (e 8) (e 9) (e 10) (e 11) (fits 8) (fits 9) (fits 10) (fits 11) i
    ∷ fourth (e 8) (e 9) (e 10) (e 11) (fits 8) (fits 9) (fits 10) (fits 11) i
    ∷ first (e 12) (e 13) (e 14) (e 15) (fits 12) (fits 13) (fits 14) (fits 15) i
    ∷ second (e 12) (e 13) (e 14) (e 15) (fits 12) (fits 13) (fits 14) (fits 15) i
    ∷ third (e 12) (e 13) (e 14) (e 15) (fits 12) (fits 13) (fits 14) (fits 15) i
    ∷ fourth (e 12) (e 13) (e 14) (e 15) (fits 12) (fits 13) (fits 14) (fits 15) i
    ∷ first (e 16) (e 17) (e 18) (e 19) (fits 16) (fits 17) (fits 18) (fits 19) i
    ∷ second (e 16) (e 17) (e 18) (e 19) (fits 16) (fits 17) (fits 18) (fits 19) i
    ∷ third (e 16) (e 17) (e 18) (e 19) (fits 16) (fits 17) (fits 18) (fits 19) i
    ∷ fourth (e 16) (e 17) (e 18) (e 19) (fits 16) (fits 17) (fits 18) (fits 19) i
    ∷ first (e 20) (e 21) (e 22) (e 23) (fits 20) (fits 21) (fits 22) (fits 23) i
    ∷ second (e 20) (e 21) (e 22) (e 23) (fits 20) (fits 21) (fits 22) (fits 23) i
    ∷ third (e 20) (e 21) (e 22) (e 23) (fits 20) (fits 21) (fits 22) (fits 23) i
    ∷ fourth (e 20) (e 21) (e 22) (e 23) (fits 20) (fits 21) (fits 22) (fits 23) i
    ∷ first (e 24) (e 25) (e 26) (e 27) (fits 24) (fits 25) (fits 26) (fits 27) i
    ∷ second (e 24) (e 25) (e 26) (e 27) (fits 24) (fits 25) (fits 26) (fits 27) i
    ∷ third (e 24) (e 25) (e 26) (e 27) (fits 24) (fits 25) (fits 26) (fits 27) i
    ∷ fourth (e 24) (e 25) (e 26) (e 27) (fits 24) (fits 25) (fits 26) (fits 27) i
    ∷ first (e 28) (e 29) (e 30) (e 31) (fits 28) (fits 29) (fits 30) (fits 31) i
    ∷ second (e 28) (e 29) (e 30) (e 31) (fits 28) (fits 29) (fits 30) (fits 31) i
    ∷ third (e 28) (e 29) (e 30) (e 31) (fits 28) (fits 29) (fits 30) (fits 31) i
    ∷ fourth (e 28) (e 29) (e 30) (e 31) (fits 28) (fits 29) (fits 30) (fits 31) i ∷ [])
    ∙ sym (spelled xs long)
