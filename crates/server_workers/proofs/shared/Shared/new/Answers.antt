use Rattle.std.proofs.Common.{ap}
use Rattle.server_workers.proofs.Relays.{forks}
use Rattle.server_workers.proofs.shared.Shared.new.Goals as goal

pub another-popping-requires-clause-rule : goal.another-popping-requires-clause-rule
another-popping-requires-clause-rule g c = forks _ _ (ap (λ v. v.pushes) c.requires.first) (ap (λ v. v.pops) c.requires.first)
