use Rattle.std.proofs.Common.{refl}
use Rattle.std.proofs.lemmas.Result.{err_from_is_err_and}
use Rattle.file_session.proofs.Looks.{looked_next, looked_so}
use Rattle.file_session.proofs.Puts.{put_nowhere, put_somewhere}
use Rattle.file_session.proofs.conversation.Conversation.spot.Goals as goal

pub returns-in_err-site-clause-looked : goal.returns-in_err-site-clause-looked
returns-in_err-site-clause-looked g c =
    let p = err_from_is_err_and c.from_residual.result c.from_residual.ensures.1 in
    rw (p.1, p.2) (looked_so _ c.in_err-site.ensures.looked (λ tree is. tt))

pub returns-in_default-clause-looked : goal.returns-in_default-clause-looked
returns-in_default-clause-looked g c =
    looked_so _ c.in_ok-site.ensures.looked (λ tree is. λ later. put_nowhere c.args.user tree _ _ later c.args.file.now c.in_ok-site.field-0 c.in_default.not-Some is)

pub returns-in_err-free-clause-looked : goal.returns-in_err-free-clause-looked
returns-in_err-free-clause-looked g c =
    let p = err_from_is_err_and c.from_residual-in_err-free.result c.from_residual-in_err-free.ensures.1 in
    rw (p.1, p.2) (looked_next _ c.in_ok-site.ensures.looked c.in_err-free.ensures.looked (λ tree p r. tt))

pub returns-clause-looked : goal.returns-clause-looked
returns-clause-looked g c =
    let file = c.args.file.now in
    looked_next _ c.in_ok-site.ensures.looked c.in_ok-free.ensures.looked (λ tree is free. λ later.
    put_somewhere c.args.user tree _ _ _ later file c.in_ok-site.field-0 c.in-Some.site c.in_ok-free.free _ c.in-Some.is is (free _) refl refl)
