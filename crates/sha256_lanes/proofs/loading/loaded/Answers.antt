use Rattle.std.proofs.Common.{ℕ, ◌+◌, ◌*◌, List, slice_index, sym, ◌∙◌, arith}
use Rattle.std.proofs.lemmas.List.{ext_get_or, length-map, length-set}
use Rattle.sha2.specs.Sha256.{first_words, word_at}
use Rattle.sha256_lanes.specs.Lanes.{lane, part}
use Rattle.sha256_lanes.proofs.Places.{known_more}
use Rattle.sha256_lanes.proofs.Schedules.{first_count, first_is}
use Rattle.sha256_lanes.proofs.loading.loaded.Goals as goal

pub places-preserved : goal.places-preserved
places-preserved c =
    let block : List (List ℕ) = c.places.block in
    let place : ℕ = c.places.place in (
      length-set block place c.words_at.result ∙ c.places.invariant.0,
      λ i lt.
          let b : List ℕ = part (c.args.first + c.args.stride * i) 64 c.args.text.now in
          known_more i block place c.words_at.result (λ k. word_at b (4 * k)) (omega arith) (c.places.invariant.1 i lt) (c.words_at.ensures i lt),
    )

pub returns : goal.returns
returns c i lt =
    let block : List (List ℕ) = c.places.block in
    let b : List ℕ = part (c.args.first + c.args.stride * i) 64 c.args.text.now in
    let long = length-map block (λ (w : List ℕ). slice_index w i) in
    ext_get_or 0 (lane i block) (first_words b 16) (omega (arith, long, first_count b 16))
    (λ k below. c.places.invariant.1 i lt k (omega (arith, long)) ∙ sym (first_is b 16 k (omega (arith, long))))
