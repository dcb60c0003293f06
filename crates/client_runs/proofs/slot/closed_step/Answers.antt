use Rattle.std.proofs.Common.{◌≡◌, ◌∙◌, ap, length, map, refl, sym}
use Rattle.std.specs.Vec.{vec_items}
use Rattle.client_steps.specs.Steps.{Closed, Owner, secrets_in}
use Rattle.client_runs.specs.declared.world.Act.TheVariants as act
use Rattle.client_runs.specs.declared.world.Answer.TheVariants as answer
use Rattle.client_runs.specs.Runs.{owner}
use Rattle.client_runs.specs.Carried.{ComesOf, script_keys}
use Rattle.client_runs.specs.Slots.{IsLeftWith, IsOf, client_in, parts_in}
use Rattle.client_runs.proofs.Places as places
use Rattle.client_runs.proofs.Taking as taking
use Rattle.client_runs.proofs.slot.closed_step.Goals as goal

pub crashed-requires : goal.crashed-requires
crashed-requires g c =
    places.as_many_keys c.args.parts.keys.items c.deref.result.now (c.may_leave.ensures.yes c.if-not-may_leave.false).0 ∙ ap length (c.deref.ensures.value ∙ sym c.deref-in-Crash-2.ensures.value)

pub returns-in-Open-clause-step : goal.returns-in-Open-clause-step
returns-in-Open-clause-step g c =
    let o : Owner = owner script_keys c.args.user in
    let t = c.args.act.now in
    let p = parts_in c.args.parts in
    taking.on_each c.open.result (λ r. ComesOf o (Closed p) act.Open r.1 (client_in r.0)) (λ r. ComesOf o (Closed p) t r.1 (client_in r.0)) c.open.ensures.step
    (λ r comes. taking.by_act o (Closed p) t act.Open r.1 (client_in r.0) c.in-Open.is comes)

pub returns-in-Gain-clause-step : goal.returns-in-Gain-clause-step
returns-in-Gain-clause-step g c =
    let o : Owner = owner script_keys c.args.user in
    let t = c.args.act.now in
    let p = parts_in c.args.parts in
    taking.on_each c.gain.result (λ r. ComesOf o (Closed p) act.Gain r.1 (client_in r.0)) (λ r. ComesOf o (Closed p) t r.1 (client_in r.0)) c.gain.ensures.step
    (λ r comes. taking.by_act o (Closed p) t act.Gain r.1 (client_in r.0) c.in-Gain.is comes)

pub returns-else-not-may_leave-clause-step : goal.returns-else-not-may_leave-clause-step
returns-else-not-may_leave-clause-step g c =
    let o : Owner = owner script_keys c.args.user in
    let t = c.args.act.now in
    let p = parts_in c.args.parts in
    let secrets = secrets_in c.args.parts.keys.items in
    let ledgers = c.in-Crash.ledgers in
    let journal = c.in-Crash.journal in
    let left = c.deref-in-Crash-2.result.now in
    let kept = c.deref-in-Crash-3.result.now in
    let may = taking.by_name ledgers journal c.deref.result.now c.deref-in-Crash.result.now c.deref.ensures.value c.deref-in-Crash.ensures.value (Closed p) (c.may_leave.ensures.yes c.if-not-may_leave.false) in
    taking.on_both c.crashed.result (λ r. IsLeftWith (map vec_items left) kept secrets r.0) (λ r. r.1 ≡ answer.Crashed) (λ r. ComesOf o (Closed p) t r.1 (client_in r.0)) c.crashed.ensures.closed c.crashed.ensures.answer
    (λ r gone is. taking.crashed ledgers journal left kept c.deref-in-Crash-2.ensures.value c.deref-in-Crash-3.ensures.value t c.in-Crash.is o (Closed p) may secrets r.0 r.1 gone is)

pub returns-else-not-may_leave-clause-own : goal.returns-else-not-may_leave-clause-own
returns-else-not-may_leave-clause-own g c =
    let o : Owner = owner script_keys c.args.user in
    let secrets = secrets_in c.args.parts.keys.items in
    let left = c.deref-in-Crash-2.result.now in
    let kept = c.deref-in-Crash-3.result.now in
    taking.on_each c.crashed.result (λ r. IsLeftWith (map vec_items left) kept secrets r.0) (λ r. IsOf o r.0) c.crashed.ensures.closed
    (λ r gone. taking.left_own o (map vec_items left) kept secrets r.0 gone c.requires.own)

pub returns-then-not-may_leave-clause-step : goal.returns-then-not-may_leave-clause-step
returns-then-not-may_leave-clause-step g c = (
  refl,
  taking.not_left_closed c.in-Crash.ledgers c.in-Crash.journal c.deref.result.now c.deref-in-Crash.result.now c.deref.ensures.value c.deref-in-Crash.ensures.value c.args.act.now c.in-Crash.is
      (owner script_keys c.args.user) (parts_in c.args.parts) (c.may_leave.ensures.no c.if-not-may_leave.true),
)

pub returns-in_default : goal.returns-in_default
returns-in_default g c =
    let o : Owner = owner script_keys c.args.user in
    record {
      step = (refl, taking.stays_closed o (parts_in c.args.parts) c.args.act.now c.in_default.not-Open c.in_default.not-Gain c.in_default.not-Crash);
      own = c.requires.own;
    }
