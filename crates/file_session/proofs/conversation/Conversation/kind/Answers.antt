use Rattle.std.proofs.lemmas.Result.{err_from_is_err_and}
use Rattle.file_session.proofs.Looks.{looked_so}
use Rattle.file_session.proofs.conversation.Conversation.kind.Goals as goal

pub returns-in_err-look-clause-looked : goal.returns-in_err-look-clause-looked
returns-in_err-look-clause-looked g c =
    let p = err_from_is_err_and c.from_residual.result c.from_residual.ensures.1 in
    rw (p.1, p.2) (looked_so _ c.in_err-look.ensures.looked (λ tree is. tt))

pub returns-clause-looked : goal.returns-clause-looked
returns-clause-looked g c = looked_so _ c.in_ok-look.ensures.looked (λ tree is. c.kind_seen.ensures tree _ _ is)
