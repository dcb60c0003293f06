use Rattle.std.proofs.Common.{refl, subst}
use Rattle.layout.specs.Types.{Bytes}
use Rattle.client_runs.specs.declared.world.Act.TheVariants as act
use Rattle.client_steps.specs.Steps.{HasHeard}
use Rattle.client_steps.specs.Anywhere.{asked, on_ok}
use Rattle.client_runs.proofs.Taking as taking
use Rattle.client_runs.proofs.answering.hears.Goals as goal

pub returns-in-Some : goal.returns-in-Some
returns-in-Some g c =
    let old = c.args.client.now in
    let new = c.hear.new.client in
    let told = subst (λ (t : Bytes). HasHeard old t (on_ok asked c.in-Some.answer) new) c.deref.ensures.value c.in-Some.ensures in
    λ o sound. taking.hears o old new (act.Reply c.args.text.now) c.args.text.now c.in-Some.answer refl told sound
