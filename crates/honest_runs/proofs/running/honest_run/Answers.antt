use Rattle.std.proofs.Common.{subst, sym}
use Rattle.std.specs.declared.vec.Vec.{Vec}
use Rattle.client_runs.specs.declared.world.Answer.{Answer}
use Rattle.honest_runs.specs.Served.{AreServed}
use Rattle.honest_runs.proofs.StepByStep.{none_yet, served}
use Rattle.honest_runs.proofs.running.honest_run.Goals as goal

pub carry_out_all-carried_out-requires-clause-begins : goal.carry_out_all-carried_out-requires-clause-begins
carry_out_all-carried_out-requires-clause-begins g c =
    let e = c.in_ok-town.ensures in
    none_yet c.new-answers.result.items c.in_ok-town.town c.new-answers.ensures.items e.clients e.stored e.calls e.answers

pub returns : goal.returns
returns g c =
    let all = c.carry_out_all-carried_out in
    let done = rw c.in_ok-answers.ensures.ok at all.ensures in
    subst (λ (given : Vec (Answer g.row.A.Denot) g.row.A.Denot). AreServed c.args.steps.now given.items) (sym c.in_ok-answers.ensures.same)
    (served c.args.steps.now all.new.answers.items all.new.town done)
