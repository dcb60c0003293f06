use Rattle.fork_consistency.proofs.Consistent.{at_each, consistent}
use Rattle.fork_consistency.proofs.laws.runs_are_fork_consistent.Goals as goal

pub returns-clause-consistent : goal.returns-clause-consistent
returns-clause-consistent c = consistent

pub returns-clause-at_each : goal.returns-clause-at_each
returns-clause-at_each c = at_each
