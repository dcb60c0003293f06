use Rattle.std.proofs.Common.{ap, Some}
use Rattle.file_session.specs.Order.{Update}
use Rattle.file_session.proofs.Runs.{resigned, went_then}
use Rattle.file_session.proofs.Turns.{went_to}
use Rattle.file_session.proofs.conversation.Conversation.update_by.Goals as goal

pub returns-in-Ok-clause-went : goal.returns-in-Ok-clause-went
returns-in-Ok-clause-went g c =
    λ keys. went_then (went_to (ap (λ text. Update text (Some keys)) c.in-Ok.ensures.text) (resigned _ _ _ _ keys _ c.in-Ok.ensures.leads)) (c.update.ensures.went (Some keys))

pub returns-in-Err-clause-went : goal.returns-in-Err-clause-went
returns-in-Err-clause-went g c = λ keys. resigned _ _ _ _ keys _ c.in-Err.ensures.leads
