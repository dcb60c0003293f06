use Rattle.std.proofs.Common.{refl}
use Rattle.client_runs.specs.declared.world.Act.TheVariants as act
use Rattle.client_runs.proofs.Taking as taking
use Rattle.client_runs.proofs.answering.resigns.Goals as goal

pub returns-in-Some : goal.returns-in-Some
returns-in-Some g c =
    let old = c.args.client.now in
    let new = c.resign.new.client in
    λ o sound. taking.resigns o old new (act.Resign c.args.key) c.args.key c.in-Some.answer refl c.in-Some.ensures sound
