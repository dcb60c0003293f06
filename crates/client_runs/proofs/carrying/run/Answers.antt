use Rattle.client_runs.proofs.Ended.{all_steps, carried_out, none_yet, step_more}
use Rattle.client_runs.proofs.carrying.run.Goals as goal

pub loop-todo-init : goal.loop-todo-init
loop-todo-init g c = record {
  stands = none_yet c.new-answers.result.items c.in_ok-clients.clients c.new-answers.ensures.items c.in_ok-clients.ensures;
}

pub loop-todo-preserved : goal.loop-todo-preserved
loop-todo-preserved g c =
    let is = c.loop-todo.invariant in
    let e = c.in_ok-answer.ensures in
    record {
      stands = step_more c.args.steps.now c.loop-todo.todo-index c.todo-item.result c.loop-todo-test.true c.todo-item.is
          c.loop-todo.answers.items c.push.new.self.items c.in_ok-answer.answer c.loop-todo.clients c.carry_out.new.self
          c.in_ok-push.ensures.items e.others is.stands e.step;
    }

pub returns : goal.returns
returns g c =
    let once = c.each_is_used_once.ensures in
    carried_out once.leaves once.certificates once.structures
    c.args.steps.now c.loop-todo.answers.items c.loop-todo.clients
    (all_steps c.args.steps.now c.loop-todo.todo-index c.loop-todo.answers.items c.loop-todo.clients c.loop-todo-test.false c.loop-todo.invariant.stands)
