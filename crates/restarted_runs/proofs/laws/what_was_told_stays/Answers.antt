use Rattle.restarted_runs.proofs.Restarts.{told_stays}
use Rattle.restarted_runs.proofs.laws.what_was_told_stays.Goals as goal

pub returns : goal.returns
returns c = told_stays c.log_replays.ensures.kept c.log_replays.ensures.each
