use Rattle.std.proofs.Common.{ℕ, List, [], slice_index, slice_index_or, sym, ap, ◌∙◌, arith}
use Rattle.std.proofs.lemmas.List.{length-set}
use Rattle.sha2.specs.Sha256.{schedule}
use Rattle.sha256_lanes.specs.Lanes.{lane}
use Rattle.sha256_lanes.proofs.Places.{known_more, lane_at}
use Rattle.sha256_lanes.proofs.Schedules.{first_is, first_word, next_same}
use Rattle.sha256_lanes.proofs.compression.fill.Goals as goal

pub first-preserved : goal.first-preserved
first-preserved c =
    let words : List (List ℕ) = c.first.words in
    let place : ℕ = c.first.place in
    let block : List (List ℕ) = c.args.block.now in (
      length-set words place (slice_index_or block place []) ∙ c.first.invariant.0,
      λ i b lt is.
          known_more i words place (slice_index_or block place []) (slice_index (schedule b 48)) (omega arith) (c.first.invariant.1 i b lt is)
          (sym (lane_at i block place (omega arith)) ∙ ap (λ (l : List ℕ). slice_index l place) is ∙ first_is b 16 place (omega arith) ∙ sym (first_word b place (omega arith))),
    )

pub rest-preserved : goal.rest-preserved
rest-preserved c =
    let words : List (List ℕ) = c.rest.words in
    let place : ℕ = c.rest.place in (
      length-set words place c.next_words.result ∙ c.rest.invariant.0,
      λ i b lt is.
          known_more i words place c.next_words.result (slice_index (schedule b 48)) (omega arith) (c.rest.invariant.1 i b lt is)
          (c.next_words.ensures i lt ∙ next_same (lane i words) b place (omega arith) (omega arith) (c.rest.invariant.1 i b lt is)),
    )
