use Rattle.session_runs.proofs.Lives.{lives_are_runs}
use Rattle.session_runs.proofs.laws.lives_are_runs.Goals as goal

pub returns : goal.returns
returns g c = lives_are_runs g.T.Transport.answers
