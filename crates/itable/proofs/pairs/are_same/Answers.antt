use Rattle.std.proofs.lemmas.Slice.Eq.{slice_eq-Decides}
use Rattle.itable.proofs.NewTexts.{pair_decides}
use Rattle.itable.proofs.pairs.are_same.Goals as goal

pub returns : goal.returns
returns c = slice_eq-Decides pair_decides c.args.pairs.now c.args.others.now c.eq.result c.eq.ensures
