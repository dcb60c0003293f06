use Rattle.std.proofs.lemmas.Result.{err_from_is_err_and}
use Rattle.commands.specs.Asked.{removes}
use Rattle.file_session.proofs.Choices.{planned_by, planned_not, planned_now}
use Rattle.file_session.proofs.Looks.{looked_so}
use Rattle.file_session.proofs.Walks.{at_a_place, at_no_place}
use Rattle.file_session.proofs.conversation.Conversation.remove.Goals as goal

pub returns-in_err-site-clause-planned : goal.returns-in_err-site-clause-planned
returns-in_err-site-clause-planned g c =
    let p = err_from_is_err_and c.from_residual.result c.from_residual.ensures.1 in
    λ user. rw (p.1, p.2) (planned_not _ _ (looked_so _ c.in_err-site.ensures.looked (λ tree is. tt)))

pub returns-in_default-clause-planned : goal.returns-in_default-clause-planned
returns-in_default-clause-planned g c = λ user.
    planned_now _ _ _ (looked_so _ c.in_ok-site.ensures.looked (λ tree is. at_no_place user tree (λ place _. removes place) _ _ c.in_ok-site.field-0 c.in_default.not-Some is)) c.refused.ensures.plan c.refused.ensures.can_begin

pub returns-clause-planned : goal.returns-clause-planned
returns-clause-planned g c = λ user.
    let e = c.remove_at.ensures in
    let s = c.or_stop.ensures in
    planned_by _ _ c.or_stop.result (looked_so _ c.in_ok-site.ensures.looked (λ tree is.
    at_a_place user tree (λ place _. removes place) _ _ c.in_ok-site.field-0 c.in-Some.site c.in-Some.is is)) (s.plan _ e.plan) (s.can_begin e.can_begin) s.memory (s.changes _ e.changes)
