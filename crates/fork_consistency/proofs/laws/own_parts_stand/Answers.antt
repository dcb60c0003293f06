use Rattle.fork_consistency.proofs.Consistent.{stands, stands_at_each}
use Rattle.fork_consistency.proofs.laws.own_parts_stand.Goals as goal

pub returns-clause-stand : goal.returns-clause-stand
returns-clause-stand c = stands

pub returns-clause-at_each : goal.returns-clause-at_each
returns-clause-at_each c = stands_at_each
