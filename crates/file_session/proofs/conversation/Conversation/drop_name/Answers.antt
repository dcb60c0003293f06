use Rattle.std.proofs.lemmas.Result.{err_from_is_err_and}
use Rattle.commands.specs.Asked.{drops_name}
use Rattle.file_session.proofs.Choices.{planned_by, planned_not, planned_now}
use Rattle.file_session.proofs.Looks.{looked_so}
use Rattle.file_session.proofs.TwoPlaces.{by_no_sites, by_sites}
use Rattle.file_session.proofs.conversation.Conversation.drop_name.Goals as goal

pub returns-in_err-sites-clause-planned : goal.returns-in_err-sites-clause-planned
returns-in_err-sites-clause-planned g c =
    let p = err_from_is_err_and c.from_residual.result c.from_residual.ensures.1 in
    λ user. rw (p.1, p.2) (planned_not _ _ (looked_so _ c.in_err-sites.ensures.looked (λ tree is. tt)))

pub returns-in_default-clause-planned : goal.returns-in_default-clause-planned
returns-in_default-clause-planned g c = λ user.
    planned_now _ _ _ (looked_so _ c.in_ok-sites.ensures.looked (λ tree is. by_no_sites user tree drops_name _ _ _ _ c.in_ok-sites.field-0 c.in_default.not-Some is)) c.refused.ensures.plan c.refused.ensures.can_begin

pub returns-clause-planned : goal.returns-clause-planned
returns-clause-planned g c = λ user.
    let e = c.drop_name_at.ensures in
    let s = c.or_stop.ensures in
    planned_by _ _ c.or_stop.result (looked_so _ c.in_ok-sites.ensures.looked (λ tree is.
    by_sites user tree drops_name _ _ _ _ c.in_ok-sites.field-0 c.in-Some.sites c.in-Some.is is)) (s.plan _ e.plan) (s.can_begin e.can_begin) s.memory (s.changes _ e.changes)
