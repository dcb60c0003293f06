use Rattle.std.proofs.Common.{sym, ◌∙◌}
use Rattle.std.proofs.lemmas.Result.{err_from_is_err_and}
use Rattle.file_session.proofs.Choices.{planned_after, planned_not, planned_now}
use Rattle.file_session.proofs.Looks.{looked_next, looked_so, quiet}
use Rattle.file_session.proofs.Puts.{bad_names, put_at_no_end, put_in_none, put_in_some}
use Rattle.file_session.proofs.Runs.{went_none}
use Rattle.file_session.proofs.conversation.Conversation.put_all.Goals as goal

pub returns-in_err-end-clause-planned : goal.returns-in_err-end-clause-planned
returns-in_err-end-clause-planned g c =
    let p = err_from_is_err_and c.from_residual.result c.from_residual.ensures.1 in
    rw (p.1, p.2) (planned_not _ _ (looked_so _ c.in_err-end.ensures.looked (λ tree is. tt)))

pub returns-in_err-entries-clause-planned : goal.returns-in_err-entries-clause-planned
returns-in_err-entries-clause-planned g c =
    let p = err_from_is_err_and c.from_residual-in_err-entries.result c.from_residual-in_err-entries.ensures.1 in
    rw (p.1, p.2) (planned_not _ _ (looked_next _ c.in_ok-end.ensures.looked c.in_err-entries.ensures.looked (λ tree p r. tt)))

pub returns-then-not-have_names-clause-planned : goal.returns-then-not-have_names-clause-planned
returns-then-not-have_names-clause-planned g c =
    planned_now _ _ _ (quiet _ (went_none _) (λ tree. bad_names c.args.user tree _ _ (sym c.have_names.ensures ∙ c.if-not-have_names.true))) c.refused.ensures.plan c.refused.ensures.can_begin

pub returns-in_default-clause-planned : goal.returns-in_default-clause-planned
returns-in_default-clause-planned g c =
    let good = sym c.have_names.ensures ∙ c.if-not-have_names.false in
    planned_now _ _ _ (looked_so _ c.in_ok-end.ensures.looked (λ tree is.
    put_at_no_end c.args.user tree _ _ c.in_ok-end.field-0 good c.in_default.not-Some is)) c.refused-in_default.ensures.plan c.refused-in_default.ensures.can_begin

pub returns-in_default-2-clause-planned : goal.returns-in_default-2-clause-planned
returns-in_default-2-clause-planned g c =
    let good = sym c.have_names.ensures ∙ c.if-not-have_names.false in
    planned_now _ _ _ (looked_next _ c.in_ok-end.ensures.looked c.in_ok-entries.ensures.looked (λ tree is none.
    put_in_none c.args.user tree _ _ _ c.in-Some.end c.in_ok-entries.field-0 good c.in-Some.is is c.in_default-2.not-Some none)) c.refused-in_default-2.ensures.plan c.refused-in_default-2.ensures.can_begin

pub returns-clause-planned : goal.returns-clause-planned
returns-clause-planned g c =
    let good = sym c.have_names.ensures ∙ c.if-not-have_names.false in
    planned_after _ _ (looked_next _ c.in_ok-end.ensures.looked c.in_ok-entries.ensures.looked (λ tree is at.
    put_in_some c.args.user tree _ _ _ c.in-Some.end c.in_ok-entries.field-0 c.in-Some-2.entries _ good c.in-Some.is is c.in-Some-2.is at (c.get.ensures.same ∙ c.range_of.ensures.first))) (λ tree is. is) c.put_each.ensures.planned
