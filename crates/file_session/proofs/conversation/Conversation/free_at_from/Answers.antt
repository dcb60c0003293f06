use Rattle.file_session.proofs.Looks.{looked_so}
use Rattle.file_session.proofs.Puts.{free_from_new}
use Rattle.file_session.proofs.conversation.Conversation.free_at_from.Goals as goal

pub returns-in-New-clause-looked : goal.returns-in-New-clause-looked
returns-in-New-clause-looked g c =
    looked_so _ c.free_from.ensures.looked (λ tree is. free_from_new c.free_from.result c.args.user tree _ c.args.site.now c.in-New.directory c.in-New.is is)
