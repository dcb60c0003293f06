use Rattle.server_log.proofs.Replays.{replayed, same_kept, same_answer, each, again}
use Rattle.server_log.proofs.laws.log_replays.Goals as goal

pub returns-clause-events : goal.returns-clause-events
returns-clause-events c = replayed

pub returns-clause-kept : goal.returns-clause-kept
returns-clause-kept c = same_kept

pub returns-clause-answer : goal.returns-clause-answer
returns-clause-answer c = same_answer

pub returns-clause-each : goal.returns-clause-each
returns-clause-each c = each

pub returns-clause-again : goal.returns-clause-again
returns-clause-again c = again
