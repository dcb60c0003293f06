use Rattle.fork_consistency.proofs.Premises.{keys_of_nobody, of_nobody}
use Rattle.fork_consistency.proofs.laws.stolen_by_nobody.Goals as goal

pub returns-clause-premises : goal.returns-clause-premises
returns-clause-premises c = of_nobody

pub returns-clause-keys : goal.returns-clause-keys
returns-clause-keys c = keys_of_nobody
