use Rattle.sha256_lanes.proofs.Bits.{sum_1}
use Rattle.sha256_lanes.proofs.long.big_sigma1.Goals as goal

pub returns : goal.returns
returns c =
    rw (c.rotate_right-3.ensures, c.rotate_right-2.ensures, c.rotate_right.ensures) (sum_1 c.args.x c.ranges.x.fits)
