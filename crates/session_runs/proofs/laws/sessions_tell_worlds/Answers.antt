use Rattle.session_runs.proofs.Worlds.{sessions_tell_worlds}
use Rattle.session_runs.proofs.laws.sessions_tell_worlds.Goals as goal

pub returns : goal.returns
returns g c = sessions_tell_worlds g.T.Transport.answers
