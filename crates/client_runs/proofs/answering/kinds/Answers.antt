use Rattle.std.proofs.Common.{refl}
use Rattle.client_runs.specs.declared.world.Act.TheVariants as act
use Rattle.client_runs.proofs.Taking as taking
use Rattle.client_runs.proofs.answering.kinds.Goals as goal

pub returns-in-Some : goal.returns-in-Some
returns-in-Some g c =
    let old = c.args.client.now in
    let new = c.kind.new.client in
    λ o sound. taking.kinds o old new (act.Kind c.args.principal c.args.i_number) c.args.principal c.args.i_number c.in-Some.answer refl c.in-Some.ensures sound
