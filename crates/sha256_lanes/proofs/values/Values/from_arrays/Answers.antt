use Rattle.std.proofs.Common.{◌≡◌, ℕ, ◌<◌, List, [], ◌∷◌, length, slice_index_or, ap, ◌∙◌, arith}
use Rattle.std.proofs.lemmas.List.FromFn.{get_or-map-range_with_len}
use Rattle.sha2.specs.Sha256.{digest_bytes}
use Rattle.sha256_lanes.specs.Lanes.{lane}
use Rattle.sha256_lanes.proofs.Places.{each_lane, eight_words}
use Rattle.sha256_lanes.proofs.values.Values.from_arrays.Goals as goal

pub returns : goal.returns
returns c i lt =
    let values : List (List ℕ) = c.args.values.now in
    let words : List (List ℕ) = c.words_of.result ∷ c.words_of-2.result ∷ c.words_of-3.result ∷ c.words_of-4.result ∷ c.words_of-5.result ∷ c.words_of-6.result ∷ c.words_of-7.result ∷ c.words_of-8.result ∷ [] in
    let rows : List (List ℕ) = c.row.result ∷ c.row-2.result ∷ c.row-3.result ∷ c.row-4.result ∷ c.row-5.result ∷ c.row-6.result ∷ c.row-7.result ∷ c.row-8.result ∷ [] in
    let wide : (i : ℕ) → i < 8 → length (slice_index_or words i []) ≡ 8 =
    each_lane (λ i. length (slice_index_or words i []) ≡ 8) (omega arith) (omega arith) (omega arith) (omega arith) (omega arith) (omega arith) (omega arith) (omega arith) in
    let spelled : (i : ℕ) → i < 8 → digest_bytes (slice_index_or words i []) 8 ≡ slice_index_or values i [] =
    each_lane (λ i. digest_bytes (slice_index_or words i []) 8 ≡ slice_index_or values i []) c.words_of.ensures.value c.words_of-2.ensures.value c.words_of-3.ensures.value c.words_of-4.ensures.value c.words_of-5.ensures.value c.words_of-6.ensures.value c.words_of-7.ensures.value c.words_of-8.ensures.value in
    let turned : lane i rows ≡ slice_index_or words i [] = rw (c.row.ensures i lt, c.row-2.ensures i lt, c.row-3.ensures i lt, c.row-4.ensures i lt, c.row-5.ensures i lt, c.row-6.ensures i lt, c.row-7.ensures i lt, c.row-8.ensures i lt) (eight_words (slice_index_or words i []) (wide i lt)) in
    get_or-map-range_with_len (λ j. digest_bytes (lane j rows) 8) 0 8 i i [] lt (omega arith)
    ∙ ap (λ (l : List ℕ). digest_bytes l 8) turned ∙ spelled i lt
