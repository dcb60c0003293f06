use Rattle.honest_runs.proofs.Events.{are_runs}
use Rattle.honest_runs.proofs.laws.honest_runs_are_runs.Goals as goal

pub returns : goal.returns
returns c = are_runs
