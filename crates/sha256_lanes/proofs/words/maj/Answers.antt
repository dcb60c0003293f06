use Rattle.std.specs.Prelude.{slice_index}
use Rattle.sha256_lanes.proofs.Bits.{most}
use Rattle.sha256_lanes.proofs.words.maj.Goals as goal

pub returns : goal.returns
returns c i lt =
    rw (c.xor-3.ensures i lt, c.and.ensures i lt, c.xor.ensures i lt, c.xor-2.ensures i lt)
    (most (slice_index c.args.x i) (slice_index c.args.y i) (slice_index c.args.z i))
