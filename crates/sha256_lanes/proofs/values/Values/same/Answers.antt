use Rattle.std.proofs.Common.{◌≡◌, ℕ, ◌^◌, ◌<◌, List, [], ◌∷◌, slice_index, ◌∙◌, arith}
use Rattle.std.proofs.lemmas.List.FromFn.{get_or-map-range_with_len}
use Rattle.sha2.specs.Sha256.{digest_bytes}
use Rattle.sha256_lanes.specs.Lanes.{lane}
use Rattle.sha256_lanes.proofs.ShortTexts.{words_of}
use Rattle.sha256_lanes.proofs.ValueBytes.{value_of_words}
use Rattle.sha256_lanes.proofs.values.Values.same.Goals as goal

small : {x y : ℕ} → x ≡ y → y < 2 ^ 32 → x < 2 ^ 32
small same lt = omega arith

pub invariant_of-result : goal.invariant_of-result
invariant_of-result c i lt =
    words_of (slice_index c.splat.result i ∷ slice_index c.splat-2.result i ∷ slice_index c.splat-3.result i ∷ slice_index c.splat-4.result i ∷ slice_index c.splat-5.result i ∷ slice_index c.splat-6.result i ∷ slice_index c.splat-7.result i ∷ slice_index c.splat-8.result i ∷ []) (small (c.splat.ensures i lt) c.word_in.type_inv, (small (c.splat-2.ensures i lt) c.word_in-2.type_inv, (small (c.splat-3.ensures i lt) c.word_in-3.type_inv, (small (c.splat-4.ensures i lt) c.word_in-4.type_inv, (small (c.splat-5.ensures i lt) c.word_in-5.type_inv, (small (c.splat-6.ensures i lt) c.word_in-6.type_inv, (small (c.splat-7.ensures i lt) c.word_in-7.type_inv, (small (c.splat-8.ensures i lt) c.word_in-8.type_inv, tt))))))))

pub returns : goal.returns
returns c i lt =
    let value : List ℕ = c.args.value.now in
    let words : List (List ℕ) = c.splat.result ∷ c.splat-2.result ∷ c.splat-3.result ∷ c.splat-4.result ∷ c.splat-5.result ∷ c.splat-6.result ∷ c.splat-7.result ∷ c.splat-8.result ∷ [] in
    get_or-map-range_with_len (λ j. digest_bytes (lane j words) 8) 0 8 i i [] lt (omega arith)
    ∙ rw (c.splat.ensures i lt, c.splat-2.ensures i lt, c.splat-3.ensures i lt, c.splat-4.ensures i lt, c.splat-5.ensures i lt, c.splat-6.ensures i lt, c.splat-7.ensures i lt, c.splat-8.ensures i lt, c.word_in.ensures, c.word_in-2.ensures, c.word_in-3.ensures, c.word_in-4.ensures, c.word_in-5.ensures, c.word_in-6.ensures, c.word_in-7.ensures, c.word_in-8.ensures)
    (value_of_words value (omega arith) (λ k. omega (arith, c.fits-value k)))
