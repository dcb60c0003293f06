use Rattle.std.proofs.Common.{Some, ◌*◌, refl, ap, ◌∙◌, arith, length}
use Rattle.std.proofs.lemmas.Result.{err_from_is_err_and}
use Rattle.commands.specs.Asked.{both, next_from, puts_each}
use Rattle.file_session.specs.Parts.{comes_at}
use Rattle.file_session.proofs.Choices.{planned_after, planned_by, planned_not, planned_now, planned_on}
use Rattle.file_session.proofs.Joined.{few_more, few_told}
use Rattle.file_session.proofs.Looks.{looked_next, looked_so, quiet}
use Rattle.file_session.proofs.Puts.{at_no_spot, at_spot, no_refusal, none_put, put_more, refused_first}
use Rattle.file_session.proofs.Runs.{went_none}
use Rattle.file_session.proofs.conversation.Conversation.+put_each.Goals as goal

pub returns-in-None-clause-planned : goal.returns-in-None-clause-planned
returns-in-None-clause-planned g t c =
    planned_now _ _ _ (quiet _ (went_none _) (λ tree. none_put c.args.user tree _ _ _ c.in-None.ensures.cases)) c.no_changes.ensures.plan c.no_changes.ensures.can_begin

pub returns-in_err-spot-in-Some-clause-planned : goal.returns-in_err-spot-in-Some-clause-planned
returns-in_err-spot-in-Some-clause-planned g t c =
    let p = err_from_is_err_and c.from_residual.result c.from_residual.ensures.1 in
    rw (p.1, p.2) (planned_not _ _ (looked_so _ c.in_err-spot-in-Some.ensures.looked (λ tree is. tt)))

pub returns-in_default-clause-planned : goal.returns-in_default-clause-planned
returns-in_default-clause-planned g t c =
    planned_now _ _ _ (looked_so _ c.in_ok-spot-in-Some.ensures.looked (λ tree one.
    at_no_spot c.args.user tree _ _ _ c.in-Some.rest.now c.in-Some.file.now c.in_ok-spot-in-Some.field-0 c.in_default.not-Some c.in-Some.ensures.cases.0 one)) c.refused.ensures.plan c.refused.ensures.can_begin

pub returns-in-Some-refusal_at-clause-planned : goal.returns-in-Some-refusal_at-clause-planned
returns-in-Some-refusal_at-clause-planned g t c =
    let file = c.in-Some.file.now in
    planned_now _ _ _ (looked_so _ c.in_ok-spot-in-Some.ensures.looked (λ tree one.
    put_more c.args.user tree _ _ (next_from c.args.from c.in-Some-2.spot.free) _ c.in-Some.rest.now file _ c.in-Some.ensures.cases.0
    (at_spot c.args.user tree _ _ _ file c.in_ok-spot-in-Some.field-0 c.in-Some-2.spot (comes_at file (Some c.in-Some-2.spot)) c.in-Some-2.is one refl refl)
    ∙ refused_first (comes_at file (Some c.in-Some-2.spot)) _ c.in-Some-refusal_at.why c.in-Some-refusal_at.ensures)) c.refused-in-Some-refusal_at.ensures.plan c.refused-in-Some-refusal_at.ensures.can_begin

pub returns-in_err-later-in-Some-clause-planned : goal.returns-in_err-later-in-Some-clause-planned
returns-in_err-later-in-Some-clause-planned g t c =
    let p = err_from_is_err_and c.from_residual-in_err-later-in-Some.result c.from_residual-in_err-later-in-Some.ensures.1 in
    let file = c.in-Some.file.now in
    let first = comes_at file (Some c.in-Some-2.spot) in
    rw (p.1, p.2) (planned_after _ _ (looked_so _ c.in_ok-spot-in-Some.ensures.looked (λ tree one.
    put_more c.args.user tree _ _ _ _ c.in-Some.rest.now file first c.in-Some.ensures.cases.0
    (at_spot c.args.user tree _ _ c.next_from-next.result file c.in_ok-spot-in-Some.field-0 c.in-Some-2.spot first c.in-Some-2.is one refl c.next_from-next.ensures.next))) (λ tree is. is)
    (planned_on (λ tree. puts_each c.args.user tree c.args.directory.now c.next_from-next.result c.in-Some.rest.now) first _ (no_refusal file c.in-Some-2.spot c.refusal_at.result c.refusal_at.ensures c.in_default-refusal_at.not-Some) c.in_err-later-in-Some.ensures.planned))

pub returns-in_ok-later-in-Some-clause-planned : goal.returns-in_ok-later-in-Some-clause-planned
returns-in_ok-later-in-Some-clause-planned g t c =
    let file = c.in-Some.file.now in
    let first = comes_at file (Some c.in-Some-2.spot) in
    let p = c.in_ok-later-in-Some.ensures.planned in
    let e = c.put_before.ensures in
    let s = c.or_stop.ensures in
    planned_by _ (both first p.outcome) c.or_stop.result (looked_next _ c.in_ok-spot-in-Some.ensures.looked p.looked (λ tree one later.
    put_more c.args.user tree _ _ _ _ c.in-Some.rest.now file first c.in-Some.ensures.cases.0
    (at_spot c.args.user tree _ _ c.next_from-next.result file c.in_ok-spot-in-Some.field-0 c.in-Some-2.spot first c.in-Some-2.is one refl c.next_from-next.ensures.next) ∙ ap (both first) later)) (s.plan _ (e.plan p.outcome p.is_plan))
    (s.can_begin (e.can_begin (2 * length c.in-Some.rest.now) (omega (arith, ap length c.in-Some.ensures.cases.0, c.requires.few)) c.in_ok-later-in-Some.ensures.few p.can_begin)) s.memory (s.changes _ (e.changes p.outcome p.is_plan))

pub returns-in_default-clause-few : goal.returns-in_default-clause-few
returns-in_default-clause-few g t c = few_told _ _ c.refused.result c.refused.ensures.plan

pub returns-in-None-clause-few : goal.returns-in-None-clause-few
returns-in-None-clause-few g t c = few_more 0 _ c.no_changes.result (omega arith) c.no_changes.ensures.few
