use Rattle.std.proofs.Common.{refl}
use Rattle.sha256_lanes.proofs.words.ch.Goals as goal

pub returns : goal.returns
returns c i lt = rw (c.xor.ensures i lt, c.and.ensures i lt, c.and-2.ensures i lt, c.not.ensures i lt) refl
