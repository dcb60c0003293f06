use Rattle.std.proofs.Common.{ℕ, List, refl, arith}
use Rattle.sha256_lanes.proofs.Places.{lane_at}
use Rattle.sha256_lanes.proofs.compression.round.Goals as goal

pub returns : goal.returns
returns c i lt =
    let v : List (List ℕ) = c.args.v in
    rw (lane_at i v 0 (omega arith), lane_at i v 1 (omega arith), lane_at i v 2 (omega arith), lane_at i v 3 (omega arith), lane_at i v 4 (omega arith), lane_at i v 5 (omega arith), lane_at i v 6 (omega arith), lane_at i v 7 (omega arith), c.add-4.ensures i lt, c.add-5.ensures i lt, c.add-first.ensures i lt, c.add-second.ensures i lt, c.add-3.ensures i lt, c.add-2.ensures i lt, c.add.ensures i lt, c.big_sigma1.ensures i lt, c.ch.ensures i lt, c.splat.ensures i lt, c.big_sigma0.ensures i lt, c.maj.ensures i lt)
    refl
