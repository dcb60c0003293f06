use Rattle.file_session.proofs.Tries.{updates}
use Rattle.file_session.proofs.conversation.Conversation.update.Goals as goal

pub returns-clause-went : goal.returns-clause-went
returns-clause-went g c = λ left. updates _ _ _ _ _ left _ c.declared.ensures c.send.ensures
