-- Words at their places.
use Rattle.std.proofs.Common.{◌≡◌, ℕ, zero, suc, ◌+◌, ◌<◌, ◌≤◌, List, [], ◌∷◌, length, slice_index, slice_index_or, slice_set, drop, arith, sym, ap, ◌∙◌, refl, inl, inr}
use Rattle.std.proofs.lemmas.List.{drop_all, drop_more, get_or-map, get_or-set_same, get_or-set_other, length-map, map-set}
use Rattle.std.proofs.lemmas.Bool.{cases_lt}
use Rattle.std.proofs.lemmas.Simd.{get_or-chunk}
use Rattle.sha2.specs.Sha256.{word_at}
use Rattle.sha256_lanes.specs.Lanes.{lane, part}

-- a lane's word at a place is that lane of the words there
pub lane_at : (i : ℕ) (words : List (List ℕ)) (k : ℕ) → k < length words → slice_index (lane i words) k ≡ slice_index (slice_index_or words k []) i
lane_at i words k lt = get_or-map (λ (w : List ℕ). slice_index w i) words k [] 0 lt

-- a word of a part is one of the whole
pub word_in_part : (bytes : List ℕ) (at size p : ℕ) → p + 4 ≤ size → word_at (part at size bytes) p ≡ word_at bytes (at + p)
word_in_part bytes at size p le =
    let second : at + (p + 1) ≡ at + p + 1 = omega arith in
    let third : at + (p + 2) ≡ at + p + 2 = omega arith in
    let fourth : at + (p + 3) ≡ at + p + 3 = omega arith in
    rw (get_or-chunk at size bytes p 0 (omega arith), get_or-chunk at size bytes (p + 1) 0 (omega arith), get_or-chunk at size bytes (p + 2) 0 (omega arith), get_or-chunk at size bytes (p + 3) 0 (omega arith), second, third, fourth) refl

-- the words at one place more are known, once those of that place are put there
pub known_more : (i : ℕ) (words : List (List ℕ)) (place : ℕ) (x : List ℕ) (word : ℕ → ℕ) → place < length words → ((k : ℕ) → k < place → slice_index (lane i words) k ≡ word k) → slice_index x i ≡ word place
    → (k : ℕ) → k < place + 1 → slice_index (lane i (slice_set words place x)) k ≡ word k
known_more i words place x word fits before is k lt =
    let set : lane i (slice_set words place x) ≡ slice_set (lane i words) place (slice_index x i) = map-set (λ (w : List ℕ). slice_index w i) words place x in
    ap (λ (l : List ℕ). slice_index l k) set ∙ elim (cases_lt k place) [
      | inl below ↦ get_or-set_other (lane i words) place k (slice_index x i) 0 (omega arith) ∙ before k below
      | inr last ↦ let same : place ≡ k = omega arith in
          rw (← same) (get_or-set_same (lane i words) place (slice_index x i) 0 (omega (arith, length-map words (λ (w : List ℕ). slice_index w i))) ∙ is)
    ]

-- eight words of each lane are their elements
pub eight : (xs : List (List ℕ)) → length xs ≡ 8
    → slice_index_or xs 0 [] ∷ slice_index_or xs 1 [] ∷ slice_index_or xs 2 [] ∷ slice_index_or xs 3 [] ∷ slice_index_or xs 4 [] ∷ slice_index_or xs 5 [] ∷ slice_index_or xs 6 [] ∷ slice_index_or xs 7 [] ∷ [] ≡ xs
eight xs long =
    let more : (k : ℕ) → k < 8 → drop k xs ≡ slice_index_or xs k [] ∷ drop (k + 1) xs = λ k lt. drop_more xs k [] (omega arith) in
    let from7 = more 7 (omega arith) ∙ ap (λ (l : List (List ℕ)). slice_index_or xs 7 [] ∷ l) (drop_all 8 xs (omega arith)) in
    let from6 = more 6 (omega arith) ∙ ap (λ (l : List (List ℕ)). slice_index_or xs 6 [] ∷ l) from7 in
    let from5 = more 5 (omega arith) ∙ ap (λ (l : List (List ℕ)). slice_index_or xs 5 [] ∷ l) from6 in
    let from4 = more 4 (omega arith) ∙ ap (λ (l : List (List ℕ)). slice_index_or xs 4 [] ∷ l) from5 in
    let from3 = more 3 (omega arith) ∙ ap (λ (l : List (List ℕ)). slice_index_or xs 3 [] ∷ l) from4 in
    let from2 = more 2 (omega arith) ∙ ap (λ (l : List (List ℕ)). slice_index_or xs 2 [] ∷ l) from3 in
    let from1 = more 1 (omega arith) ∙ ap (λ (l : List (List ℕ)). slice_index_or xs 1 [] ∷ l) from2 in
    sym (more 0 (omega arith) ∙ ap (λ (l : List (List ℕ)). slice_index_or xs 0 [] ∷ l) from1)

-- eight words are their elements
pub eight_words : (xs : List ℕ) → length xs ≡ 8
    → slice_index xs 0 ∷ slice_index xs 1 ∷ slice_index xs 2 ∷ slice_index xs 3 ∷ slice_index xs 4 ∷ slice_index xs 5 ∷ slice_index xs 6 ∷ slice_index xs 7 ∷ [] ≡ xs
eight_words xs long =
    let more : (k : ℕ) → k < 8 → drop k xs ≡ slice_index xs k ∷ drop (k + 1) xs = λ k lt. drop_more xs k 0 (omega arith) in
    let from7 = more 7 (omega arith) ∙ ap (λ (l : List ℕ). slice_index xs 7 ∷ l) (drop_all 8 xs (omega arith)) in
    let from6 = more 6 (omega arith) ∙ ap (λ (l : List ℕ). slice_index xs 6 ∷ l) from7 in
    let from5 = more 5 (omega arith) ∙ ap (λ (l : List ℕ). slice_index xs 5 ∷ l) from6 in
    let from4 = more 4 (omega arith) ∙ ap (λ (l : List ℕ). slice_index xs 4 ∷ l) from5 in
    let from3 = more 3 (omega arith) ∙ ap (λ (l : List ℕ). slice_index xs 3 ∷ l) from4 in
    let from2 = more 2 (omega arith) ∙ ap (λ (l : List ℕ). slice_index xs 2 ∷ l) from3 in
    let from1 = more 1 (omega arith) ∙ ap (λ (l : List ℕ). slice_index xs 1 ∷ l) from2 in
    sym (more 0 (omega arith) ∙ ap (λ (l : List ℕ). slice_index xs 0 ∷ l) from1)

-- what holds of each of eight lanes
pub each_lane : (P : ℕ → Type 0) → P 0 → P 1 → P 2 → P 3 → P 4 → P 5 → P 6 → P 7 → (i : ℕ) → i < 8 → P i
each_lane P p0 p1 p2 p3 p4 p5 p6 p7 zero lt = p0
each_lane P p0 p1 p2 p3 p4 p5 p6 p7 (suc zero) lt = p1
each_lane P p0 p1 p2 p3 p4 p5 p6 p7 (suc (suc zero)) lt = p2
each_lane P p0 p1 p2 p3 p4 p5 p6 p7 (suc (suc (suc zero))) lt = p3
each_lane P p0 p1 p2 p3 p4 p5 p6 p7 (suc (suc (suc (suc zero)))) lt = p4
each_lane P p0 p1 p2 p3 p4 p5 p6 p7 (suc (suc (suc (suc (suc zero))))) lt = p5
each_lane P p0 p1 p2 p3 p4 p5 p6 p7 (suc (suc (suc (suc (suc (suc zero)))))) lt = p6
each_lane P p0 p1 p2 p3 p4 p5 p6 p7 (suc (suc (suc (suc (suc (suc (suc zero))))))) lt = p7
each_lane P p0 p1 p2 p3 p4 p5 p6 p7 (suc (suc (suc (suc (suc (suc (suc (suc i)))))))) lt = absurd (omega arith)
