use Rattle.std.proofs.Common.{refl}
use Rattle.sha256_lanes.proofs.words.big_sigma1.Goals as goal

pub returns : goal.returns
returns c i lt = rw (c.xor-2.ensures i lt, c.xor.ensures i lt, c.rotate_right.ensures i lt, c.rotate_right-2.ensures i lt, c.rotate_right-3.ensures i lt) refl
