use Rattle.std.proofs.Common.{sym, ◌∙◌}
use Rattle.std.proofs.lemmas.Result.{err_from_is_err_and}
use Rattle.commands.specs.Asked.{lists}
use Rattle.file_session.proofs.Choices.{planned_not, told_now}
use Rattle.file_session.proofs.Looks.{looked_next, looked_so}
use Rattle.file_session.proofs.Walks.{at_an_end, at_no_end, lists_is}
use Rattle.file_session.proofs.conversation.Conversation.list.Goals as goal

pub returns-in_err-end-clause-planned : goal.returns-in_err-end-clause-planned
returns-in_err-end-clause-planned g c =
    let p = err_from_is_err_and c.from_residual.result c.from_residual.ensures.1 in
    rw (p.1, p.2) (planned_not _ _ (looked_so _ c.in_err-end.ensures.looked (λ tree is. tt)))

pub returns-in_default-clause-planned : goal.returns-in_default-clause-planned
returns-in_default-clause-planned g c =
    told_now _ _ (looked_so _ c.in_ok-end.ensures.looked (λ tree is. at_no_end tree lists _ c.in_ok-end.field-0 c.in_default.not-Some is))

pub returns-in_err-found-clause-planned : goal.returns-in_err-found-clause-planned
returns-in_err-found-clause-planned g c =
    let p = err_from_is_err_and c.from_residual-in_err-found.result c.from_residual-in_err-found.ensures.1 in
    rw (p.1, p.2) (planned_not _ _ (looked_next _ c.in_ok-end.ensures.looked c.in_err-found.ensures.looked (λ tree p r. tt)))

pub returns-clause-planned : goal.returns-clause-planned
returns-clause-planned g c =
    told_now _ c.listed.result (looked_next _ c.in_ok-end.ensures.looked c.in_ok-found.ensures.looked (λ tree is found.
    at_an_end tree lists _ c.in_ok-end.field-0 c.in-Some.end c.in-Some.is is ∙ lists_is _ _ found ∙ sym c.listed.ensures))
