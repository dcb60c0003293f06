use Rattle.sha256_lanes.proofs.Bits.{most}
use Rattle.sha256_lanes.proofs.long.maj.Goals as goal

pub returns : goal.returns
returns c = most c.args.x c.args.y c.args.z
