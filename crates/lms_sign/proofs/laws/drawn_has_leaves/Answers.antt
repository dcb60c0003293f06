use Rattle.lms_sign.proofs.Drawn.{drawn_has}
use Rattle.lms_sign.proofs.laws.drawn_has_leaves.Goals as goal

pub returns : goal.returns
returns c = drawn_has
