use Rattle.std.proofs.Common.{refl}
use Rattle.client_runs.specs.declared.world.Act.TheVariants as act
use Rattle.client_runs.proofs.Taking as taking
use Rattle.client_runs.proofs.answering.signs.Goals as goal

pub returns-in-Some : goal.returns-in-Some
returns-in-Some g c =
    let old = c.args.client.now in
    let new = c.sign_and_tell.new.client in
    λ o sound. taking.signs o old new act.Sign c.in-Some.answer refl (rw c.in-Some.is at c.in_ok-answer.ensures.signed) (rw c.in-Some.is at c.in_ok-answer.ensures.view) sound
