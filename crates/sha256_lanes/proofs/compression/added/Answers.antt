use Rattle.std.proofs.Common.{ℕ, List, refl, arith}
use Rattle.sha256_lanes.proofs.Places.{lane_at}
use Rattle.sha256_lanes.proofs.compression.added.Goals as goal

pub returns : goal.returns
returns c i lt =
    let h : List (List ℕ) = c.args.h.now in
    let v : List (List ℕ) = c.args.v.now in
    rw (lane_at i h 0 (omega arith), lane_at i h 1 (omega arith), lane_at i h 2 (omega arith), lane_at i h 3 (omega arith), lane_at i h 4 (omega arith), lane_at i h 5 (omega arith), lane_at i h 6 (omega arith), lane_at i h 7 (omega arith), lane_at i v 0 (omega arith), lane_at i v 1 (omega arith), lane_at i v 2 (omega arith), lane_at i v 3 (omega arith), lane_at i v 4 (omega arith), lane_at i v 5 (omega arith), lane_at i v 6 (omega arith), lane_at i v 7 (omega arith), c.add.ensures i lt, c.add-2.ensures i lt, c.add-3.ensures i lt, c.add-4.ensures i lt, c.add-5.ensures i lt, c.add-6.ensures i lt, c.add-7.ensures i lt, c.add-8.ensures i lt)
    refl
