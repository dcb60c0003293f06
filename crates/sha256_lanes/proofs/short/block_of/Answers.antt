use Rattle.std.proofs.Common.{ℕ, List, slice_index, refl, arith}
use Rattle.sha256_lanes.specs.Lanes.{lane}
use Rattle.sha256_lanes.proofs.Places.{lane_at}
use Rattle.sha256_lanes.proofs.ShortTexts.{words_are}
use Rattle.sha256_lanes.proofs.short.block_of.Goals as goal

pub returns : goal.returns
returns c i lt =
    let p : List ℕ = c.args.prefix.now in
    let value : List (List ℕ) = c.args.value.now in
    rw (words_are p (slice_index c.args.numbers i) (slice_index c.args.marks i) (lane i value) (omega arith) (c.requires.numbers i) (c.requires.marks i) (c.requires.value i lt), lane_at i value 0 (omega arith), lane_at i value 1 (omega arith), lane_at i value 2 (omega arith), lane_at i value 3 (omega arith), lane_at i value 4 (omega arith), lane_at i value 5 (omega arith), lane_at i value 6 (omega arith), lane_at i value 7 (omega arith), c.splat.ensures i lt, c.splat-2.ensures i lt, c.splat-3.ensures i lt, c.splat-4.ensures i lt, c.word_in.ensures, c.word_in-2.ensures, c.word_in-3.ensures, c.word_in-4.ensures, c.across.ensures i lt, c.across-2.ensures i lt, c.across-3.ensures i lt, c.across-4.ensures i lt, c.across-5.ensures i lt, c.across-6.ensures i lt, c.across-7.ensures i lt, c.across-8.ensures i lt, c.add.ensures i lt, c.shift_left.ensures i lt, c.splat-5.ensures i lt, c.splat-6.ensures i lt, c.splat-7.ensures i lt)
    refl
