use Rattle.fork_consistency.proofs.Consistent.{consistent}
use Rattle.session_runs.proofs.Lives.{lives_are_runs}
use Rattle.session_runs.proofs.laws.sessions_are_fork_consistent.Goals as goal

pub returns : goal.returns
returns g c = λ keys lives run are keys_are premises. consistent keys run (lives_are_runs g.T.Transport.answers keys lives run are) keys_are premises
