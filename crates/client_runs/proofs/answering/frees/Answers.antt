use Rattle.std.proofs.Common.{refl}
use Rattle.client_runs.specs.declared.world.Act.TheVariants as act
use Rattle.client_runs.proofs.Taking as taking
use Rattle.client_runs.proofs.answering.frees.Goals as goal

pub returns-in-Some : goal.returns-in-Some
returns-in-Some g c =
    let old = c.args.client.now in
    let new = c.free.new.client in
    λ o sound. taking.frees o old new (act.Free c.args.principal c.args.first c.args.last) c.args.principal c.args.first c.args.last c.in-Some.answer refl c.in-Some.ensures sound
