use Rattle.fork_consistency.proofs.Consistent.{carried_ok}
use Rattle.fork_consistency.proofs.running.run.Goals as goal

pub returns : goal.returns
returns g c = carried_ok c.args.steps.now (λ world. world.answers.items) c.run.result c.run.ensures
