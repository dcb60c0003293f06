use Rattle.restarted_runs.proofs.Restarts.{each_kept_run}
use Rattle.restarted_runs.proofs.laws.runs_with_starts_are_honest_runs.Goals as goal

pub returns : goal.returns
returns c = each_kept_run c.log_replays.ensures.kept c.log_replays.ensures.each
