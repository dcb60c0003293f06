use Rattle.std.proofs.Common.{sym, ◌∙◌}
use Rattle.file_session.proofs.Looks.{looked_so}
use Rattle.file_session.proofs.Walks.{site_at}
use Rattle.file_session.proofs.conversation.Conversation.site.Goals as goal

pub returns-in-Some-clause-looked : goal.returns-in-Some-clause-looked
returns-in-Some-clause-looked g c =
    looked_so _ c.site_from.ensures.looked (λ tree leads. site_at tree _ c.in-Some.path c.site_from.result (sym c.in-Some.is ∙ c.path_of.ensures) leads)
