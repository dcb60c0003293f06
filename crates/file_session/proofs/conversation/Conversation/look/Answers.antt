use Rattle.std.proofs.Common.{◌∙◌}
use Rattle.file_session.proofs.Plans.{nothing_is_laid}
use Rattle.file_session.proofs.conversation.Conversation.look.Goals as goal

pub operate-requires-clause-laid : goal.operate-requires-clause-laid
operate-requires-clause-laid g c = nothing_is_laid _ _ (c.deref.ensures.value ∙ c.new-changes.ensures.items)
