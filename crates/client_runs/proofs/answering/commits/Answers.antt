use Rattle.std.proofs.Common.{refl}
use Rattle.client_runs.specs.declared.world.Act.TheVariants as act
use Rattle.client_runs.proofs.Taking as taking
use Rattle.client_runs.proofs.answering.commits.Goals as goal

pub returns-then-commit : goal.returns-then-commit
returns-then-commit g c =
    let old = c.args.client.now in
    let new = c.commit.new.client in
    λ o sound. taking.commits {A = g.row.A.Denot} o old new (act.Committed c.args.status) c.args.status refl (c.commit.ensures.taken c.if-commit.true) sound
