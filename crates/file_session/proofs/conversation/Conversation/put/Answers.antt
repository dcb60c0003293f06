use Rattle.std.proofs.lemmas.Result.{err_from_is_err_and}
use Rattle.commands.specs.Asked.{puts}
use Rattle.file_session.proofs.Choices.{planned_by, planned_not, planned_now}
use Rattle.file_session.proofs.Looks.{looked_next, looked_so}
use Rattle.file_session.proofs.Walks.{at_a_free_place, at_no_place}
use Rattle.file_session.proofs.conversation.Conversation.put.Goals as goal

pub returns-in_err-site-clause-planned : goal.returns-in_err-site-clause-planned
returns-in_err-site-clause-planned g c =
    let p = err_from_is_err_and c.from_residual.result c.from_residual.ensures.1 in
    rw (p.1, p.2) (planned_not _ _ (looked_so _ c.in_err-site.ensures.looked (λ tree is. tt)))

pub returns-in_default-clause-planned : goal.returns-in_default-clause-planned
returns-in_default-clause-planned g c =
    planned_now _ _ _ (looked_so _ c.in_ok-site.ensures.looked (λ tree is. at_no_place c.args.user tree (puts c.args.content.now) _ _ c.in_ok-site.field-0 c.in_default.not-Some is)) c.refused.ensures.plan c.refused.ensures.can_begin

pub returns-in_err-free-clause-planned : goal.returns-in_err-free-clause-planned
returns-in_err-free-clause-planned g c =
    let p = err_from_is_err_and c.from_residual-in_err-free.result c.from_residual-in_err-free.ensures.1 in
    rw (p.1, p.2) (planned_not _ _ (looked_next _ c.in_ok-site.ensures.looked c.in_err-free.ensures.looked (λ tree p r. tt)))

pub returns-clause-planned : goal.returns-clause-planned
returns-clause-planned g c =
    let e = c.put_at.ensures in
    let s = c.or_stop.ensures in
    planned_by _ _ c.or_stop.result (looked_next _ c.in_ok-site.ensures.looked c.in_ok-free.ensures.looked (λ tree is free.
    at_a_free_place c.args.user tree (puts c.args.content.now) _ _ c.in_ok-site.field-0 c.in-Some.site c.in_ok-free.free c.in-Some.is is (free _))) (s.plan _ e.plan) (s.can_begin e.can_begin) s.memory (s.changes _ e.changes)
