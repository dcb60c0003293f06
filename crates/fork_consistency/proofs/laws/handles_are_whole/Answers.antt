use Rattle.fork_consistency.specs.Handles.{AllAreWhole, FirstAreWhole}
use Rattle.fork_consistency.proofs.Genuine.{of_premises}
use Rattle.fork_consistency.proofs.RunWorlds.{all_are_whole, first_are_whole}
use Rattle.fork_consistency.proofs.laws.handles_are_whole.Goals as goal

pub returns-clause-first : goal.returns-clause-first
returns-clause-first c = of_premises FirstAreWhole first_are_whole

pub returns-clause-signed : goal.returns-clause-signed
returns-clause-signed c = of_premises AllAreWhole all_are_whole
