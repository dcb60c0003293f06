use Rattle.std.proofs.Common.{refl}
use Rattle.client_runs.specs.declared.world.Act.TheVariants as act
use Rattle.client_runs.proofs.Taking as taking
use Rattle.client_runs.proofs.answering.begins.Goals as goal

pub returns-in-Some : goal.returns-in-Some
returns-in-Some g c =
    let old = c.args.client.now in
    let new = c.begin.new.client in
    let changes = c.args.changes.now in
    let laid = c.args.laid.now in
    let h = rw (c.deref.ensures.value, c.deref-2.ensures.value, c.in-Some.is) at c.in_ok-answer.ensures in
    λ o sound. taking.begins o old new (act.Begin changes laid) changes laid c.in-Some.answer refl h sound

pub returns-in-None : goal.returns-in-None
returns-in-None g c =
    let old = c.args.client.now in
    let new = c.begin.new.client in
    let changes = c.args.changes.now in
    let laid = c.args.laid.now in
    let h = rw (c.deref.ensures.value, c.deref-2.ensures.value, c.in-None.is) at c.in_ok-answer.ensures in
    λ o sound. taking.stays o old new (act.Begin changes laid) (act.Begin changes laid) refl h.0 h.1
