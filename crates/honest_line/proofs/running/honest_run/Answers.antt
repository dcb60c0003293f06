use Rattle.honest_line.proofs.OneLine.{carried_ok}
use Rattle.honest_line.proofs.running.honest_run.Goals as goal

pub returns : goal.returns
returns g c = carried_ok c.args.steps.now (λ world. world.answers.items) c.honest_run.result c.honest_run.ensures
