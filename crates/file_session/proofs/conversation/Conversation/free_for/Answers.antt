use Rattle.file_session.proofs.Looks.{looked_so}
use Rattle.file_session.proofs.Walks.{free_for_is}
use Rattle.file_session.proofs.conversation.Conversation.free_for.Goals as goal

pub returns-clause-looked : goal.returns-clause-looked
returns-clause-looked g c =
    let range = c.range_of-first.ensures in
    looked_so _ c.in_ok-look.ensures.looked (λ tree is. free_for_is c.args.user c.args.principal tree _ _ _ range.first range.last (c.free_seen.ensures tree _ _ _ is))
