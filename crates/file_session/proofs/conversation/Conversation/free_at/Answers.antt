use Rattle.file_session.proofs.Looks.{looked_so}
use Rattle.file_session.proofs.Walks.{free_at_new}
use Rattle.file_session.proofs.conversation.Conversation.free_at.Goals as goal

pub returns-in-New-clause-looked : goal.returns-in-New-clause-looked
returns-in-New-clause-looked g c =
    looked_so _ c.free_for.ensures.looked (λ tree is. free_at_new c.free_for.result c.args.user tree c.args.site.now c.in-New.directory c.in-New.is is)
