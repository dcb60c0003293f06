use Rattle.sha256_lanes.proofs.Bits.{chosen}
use Rattle.sha256_lanes.proofs.long.ch.Goals as goal

pub returns : goal.returns
returns c = chosen c.args.x c.args.y c.args.z c.ranges.x.fits c.ranges.y.fits c.ranges.z.fits
