use Rattle.honest_runs.proofs.StepByStep.{all_steps, step_more}
use Rattle.honest_runs.proofs.running.carry_out_all.Goals as goal

pub loop-step-init : goal.loop-step-init
loop-step-init g c = record { noted = c.requires.noted; stands = c.requires.begins }

pub loop-step-preserved : goal.loop-step-preserved
loop-step-preserved g c =
    let out = c.in_ok-answer.ensures in
    record {
      noted = out.happens.noted;
      stands = step_more c.args.steps.now c.loop-step.step-index c.step-item.result c.loop-step-test.true c.step-item.is
          c.loop-step.answers.items c.push.new.self.items c.in_ok-answer.answer c.loop-step.town c.carry_out.new.self
          c.in_ok-push.ensures.items c.loop-step.invariant.stands out;
    }

pub returns : goal.returns
returns g c = all_steps c.args.steps.now c.loop-step.step-index c.loop-step.answers.items c.loop-step.town c.loop-step-test.false c.loop-step.invariant.stands
