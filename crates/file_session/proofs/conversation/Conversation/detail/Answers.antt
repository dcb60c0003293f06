use Rattle.std.proofs.Common.{◌∙◌}
use Rattle.std.proofs.lemmas.Result.{err_from_is_err_and}
use Rattle.commands.specs.Asked.{tells_rows}
use Rattle.file_session.proofs.Choices.{planned_not, rows_not, told_now}
use Rattle.file_session.proofs.Looks.{looked_next, looked_so}
use Rattle.file_session.proofs.Rows.{no_rows, rows_are, told_rows}
use Rattle.file_session.proofs.Walks.{at_an_end, at_no_end}
use Rattle.file_session.proofs.conversation.Conversation.detail.Goals as goal

pub returns-in_err-end-clause-planned : goal.returns-in_err-end-clause-planned
returns-in_err-end-clause-planned g c =
    let p = err_from_is_err_and c.from_residual.result c.from_residual.ensures.1 in
    rw (p.1, p.2) (planned_not _ _ (looked_so _ c.in_err-end.ensures.looked (λ tree is. tt)))

pub returns-in_default-clause-planned : goal.returns-in_default-clause-planned
returns-in_default-clause-planned g c =
    told_now _ _ (looked_so _ c.in_ok-end.ensures.looked (λ tree is. at_no_end tree (tells_rows tree) _ c.in_ok-end.field-0 c.in_default.not-Some is))

pub returns-in_err-directory-clause-planned : goal.returns-in_err-directory-clause-planned
returns-in_err-directory-clause-planned g c =
    let p = err_from_is_err_and c.from_residual-in_err-directory.result c.from_residual-in_err-directory.ensures.1 in
    rw (p.1, p.2) (planned_not _ _ (looked_next _ c.in_ok-end.ensures.looked c.in_err-directory.ensures.looked (λ tree p r. tt)))

pub returns-in_default-2-clause-planned : goal.returns-in_default-2-clause-planned
returns-in_default-2-clause-planned g c =
    told_now _ _ (looked_next _ c.in_ok-end.ensures.looked c.in_ok-directory.ensures.looked (λ tree is found.
    at_an_end tree (tells_rows tree) _ c.in_ok-end.field-0 c.in-Some.end c.in-Some.is is ∙ no_rows tree c.in_ok-directory.field-0 _ c.in_default-2.not-Some found))

pub returns-in-Err-clause-planned : goal.returns-in-Err-clause-planned
returns-in-Err-clause-planned g c =
    let found = looked_next _ c.in_ok-end.ensures.looked c.in_ok-directory.ensures.looked (λ tree is found.
    at_an_end tree (tells_rows tree) _ c.in_ok-end.field-0 c.in-Some.end c.in-Some.is is ∙ rows_are tree c.in_ok-directory.field-0 c.in-Some-2.directory _ c.in-Some-2.is found) in
    rows_not _ _ _ found c.in-Err.ensures.looked (λ tree is. is)

pub returns-in-Ok-clause-planned : goal.returns-in-Ok-clause-planned
returns-in-Ok-clause-planned g c =
    let found = looked_next _ c.in_ok-end.ensures.looked c.in_ok-directory.ensures.looked (λ tree is found.
    at_an_end tree (tells_rows tree) _ c.in_ok-end.field-0 c.in-Some.end c.in-Some.is is ∙ rows_are tree c.in_ok-directory.field-0 c.in-Some-2.directory _ c.in-Some-2.is found) in
    told_now _ _ (looked_next _ found c.in-Ok.ensures.looked (λ tree is rows. is ∙ told_rows tree _ _ _ c.entries.ensures.same rows))
