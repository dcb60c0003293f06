use Rattle.honest_line.proofs.OneLine.{each_honest_run}
use Rattle.honest_line.proofs.laws.honest_runs_are_on_one_line.Goals as goal

pub returns : goal.returns
returns c = each_honest_run
