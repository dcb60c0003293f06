use Rattle.honest_runs.proofs.Keeping.{none_noted}
use Rattle.honest_runs.proofs.town.Town.new.Goals as goal

pub returns-clause-noted : goal.returns-clause-noted
returns-clause-noted g c = none_noted c.in_ok-clients.clients c.in_ok-wanted.wanted.items c.in_ok-clients.ensures c.in_ok-wanted.ensures.size
