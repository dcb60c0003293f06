use Rattle.std.proofs.Common.{ap, None}
use Rattle.file_session.specs.Order.{Update}
use Rattle.file_session.proofs.Runs.{begun}
use Rattle.file_session.proofs.Turns.{went_to}
use Rattle.file_session.proofs.Operations.{operates, operates_not}
use Rattle.file_session.proofs.conversation.Conversation.operate.Goals as goal

pub returns-in-Ok-clause-operated : goal.returns-in-Ok-clause-operated
returns-in-Ok-clause-operated g c = operates (went_to (ap (λ text. Update text None) c.in-Ok.ensures.text) (begun _ _ _ _ _ _ c.requires.leaves c.in-Ok.ensures.leads)) c.finish_declared.ensures.finished

pub returns-in-Err-clause-operated : goal.returns-in-Err-clause-operated
returns-in-Err-clause-operated g c = operates_not _ (begun _ _ _ _ _ _ c.requires.leaves c.in-Err.ensures.leads) tt
