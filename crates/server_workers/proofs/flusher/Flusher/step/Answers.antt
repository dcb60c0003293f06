use Rattle.std.proofs.Common.{ap, ◌∙◌}
use Rattle.server_workers.proofs.Relays.{gets, totals}
use Rattle.server_workers.proofs.Written.{writes, fails}
use Rattle.server_workers.proofs.flusher.Flusher.step.Goals as goal

pub pop_as-requires-clause-rule : goal.pop_as-requires-clause-rule
pop_as-requires-clause-rule g c = (gets _ _ c.self.invariant.2, totals _ _)

pub invariant_of-self-in-Ok : goal.invariant_of-self-in-Ok
invariant_of-self-in-Ok g c =
    let i = c.self.invariant in
    let q = c.in-Some.ensures.queue in
    let rule = c.in-Some.ensures.rule in
    ((q.0 ∙ i.0.0, q.2 ∙ i.0.1), q.0 ∙ i.1, ap (λ v. v.pops) rule ∙ i.2, writes c.self.inside.failed _ _ _ _ _ _ c.if-failed.false i.3 c.in-Ok.ensures.ok (ap (λ v. v.got) rule))

pub invariant_of-self-2 : goal.invariant_of-self-2
invariant_of-self-2 g c =
    let i = c.self.invariant in
    let q = c.in-Some.ensures.queue in
    let rule = c.in-Some.ensures.rule in
    ((q.0 ∙ i.0.0, q.2 ∙ i.0.1), q.0 ∙ i.1, ap (λ v. v.pops) rule ∙ i.2, fails c.self.inside.failed _ _ _ _ _ _ c.if-failed.false i.3 c.in-Err.ensures.err (ap (λ v. v.got) rule))
