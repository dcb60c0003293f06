use Rattle.honest_history.proofs.Lines.{each_line}
use Rattle.honest_history.proofs.laws.views_stand_in_one_line.Goals as goal

pub returns : goal.returns
returns c = each_line
