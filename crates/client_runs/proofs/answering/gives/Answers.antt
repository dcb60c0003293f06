use Rattle.std.proofs.Common.{Option, refl, subst}
use Rattle.layout.specs.Types.{Bytes}
use Rattle.client_runs.specs.declared.world.Act.TheVariants as act
use Rattle.client_steps.specs.Steps.{HasGiven}
use Rattle.client_steps.specs.Anywhere.{on_ok, seen}
use Rattle.client_runs.proofs.Taking as taking
use Rattle.client_runs.proofs.answering.gives.Goals as goal

pub returns-in-Some : goal.returns-in-Some
returns-in-Some g c =
    let old = c.args.client.now in
    let new = c.give.new.client in
    let told = subst (λ (b : Option Bytes). HasGiven old b (on_ok seen c.in-Some.answer) new) c.lent.ensures c.in-Some.ensures in
    λ o sound. taking.gives o old new (act.Give c.args.block.now) c.args.block.now c.in-Some.answer refl told sound
