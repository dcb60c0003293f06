use Rattle.std.proofs.Common.{◌≡◌, ◌∙◌, ap, length, map, refl, sym}
use Rattle.std.specs.Vec.{vec_items}
use Rattle.client_steps.specs.Steps.{Open, Owner, ledgers_of, secrets_in}
use Rattle.client_runs.specs.declared.world.Answer.TheVariants as answer
use Rattle.client_runs.specs.Runs.{owner}
use Rattle.client_runs.specs.Carried.{ComesOf, script_keys}
use Rattle.client_runs.specs.Slots.{AreFirst, IsLeftWith, IsOf, Tells, client_in, parts_in}
use Rattle.client_runs.proofs.Places as places
use Rattle.client_runs.proofs.Taking as taking
use Rattle.client_runs.proofs.slot.open_step.Goals as goal

-- ---- it is closed

pub returns-in-Close-clause-step : goal.returns-in-Close-clause-step
returns-in-Close-clause-step g c =
    let s = c.args.client in
    λ o. taking.closes o s s c.args.act.now (parts_in c.close-parts.result) c.in-Close.is (c.close-parts.ensures.closed o)

pub returns-in-Close-clause-own : goal.returns-in-Close-clause-own
returns-in-Close-clause-own g c =
    λ o own. taking.same_first o.secrets c.args.client.secrets (secrets_in c.close-parts.result.keys.items) c.close-parts.ensures.keys own

-- ---- it crashes

pub crashed-requires : goal.crashed-requires
crashed-requires g c =
    let back = c.close.ensures.closed (owner script_keys 0) in
    places.as_many_back (ledgers_of (Open c.args.client)) c.close.result.keys.items c.deref.result.now back.ledgers (c.open_may_leave.ensures.yes c.if-not-open_may_leave.false).0
    ∙ ap length (c.deref.ensures.value ∙ sym c.deref-in-Crash-2.ensures.value)

pub returns-else-not-open_may_leave-clause-step : goal.returns-else-not-open_may_leave-clause-step
returns-else-not-open_may_leave-clause-step g c =
    let t = c.args.act.now in
    let s = c.args.client in
    let secrets = secrets_in c.close.result.keys.items in
    let ledgers = c.in-Crash.ledgers in
    let journal = c.in-Crash.journal in
    let left = c.deref-in-Crash-2.result.now in
    let kept = c.deref-in-Crash-3.result.now in
    let may = taking.by_name ledgers journal c.deref.result.now c.deref-in-Crash.result.now c.deref.ensures.value c.deref-in-Crash.ensures.value (Open s) (c.open_may_leave.ensures.yes c.if-not-open_may_leave.false) in
    taking.on_both c.crashed.result (λ r. IsLeftWith (map vec_items left) kept secrets r.0) (λ r. r.1 ≡ answer.Crashed) (λ r. (o : Owner) → ComesOf o (Open s) t r.1 (client_in r.0)) c.crashed.ensures.closed c.crashed.ensures.answer
    (λ r gone is o. taking.crashed ledgers journal left kept c.deref-in-Crash-2.ensures.value c.deref-in-Crash-3.ensures.value t c.in-Crash.is o (Open s) may secrets r.0 r.1 gone is)

pub returns-else-not-open_may_leave-clause-own : goal.returns-else-not-open_may_leave-clause-own
returns-else-not-open_may_leave-clause-own g c =
    let s = c.args.client in
    let back = c.close.result.keys.items in
    let left = c.deref-in-Crash-2.result.now in
    let kept = c.deref-in-Crash-3.result.now in
    taking.on_each c.crashed.result (λ r. IsLeftWith (map vec_items left) kept (secrets_in back) r.0) (λ r. (o : Owner) → AreFirst s.secrets o.secrets → IsOf o r.0) c.crashed.ensures.closed
    (λ r gone o own. taking.left_own o (map vec_items left) kept (secrets_in back) r.0 gone (taking.same_first o.secrets s.secrets (secrets_in back) c.close.ensures.keys own))

pub returns-then-not-open_may_leave-clause-step : goal.returns-then-not-open_may_leave-clause-step
returns-then-not-open_may_leave-clause-step g c =
    λ o. (
      refl,
      taking.not_left c.in-Crash.ledgers c.in-Crash.journal c.deref.result.now c.deref-in-Crash.result.now c.deref.ensures.value c.deref-in-Crash.ensures.value c.args.act.now c.in-Crash.is
          c.args.client (c.open_may_leave.ensures.no c.if-not-open_may_leave.true),
    )

-- ---- it stays open

pub call-answer-requires : goal.call-answer-requires
call-answer-requires g c = taking.stays_open c.args.act.now c.in_default.not-Close c.in_default.not-Crash

pub returns-in_ok-client-in_default : goal.returns-in_ok-client-in_default
returns-in_ok-client-in_default g c =
    let old = c.args.client in
    let new = c.call-answer.new.client in
    let t = c.args.act.now in
    let a = c.in_ok-client-in_default.answer in
    let tells : Tells old t a new = rw c.in_ok-client-in_default.ensures.ok at c.call-answer.ensures in
    rw c.in_ok-client-in_default.ensures.same (record {
      step = λ o. tells o c.type_invariant.ensures;
      own = λ o own. taking.same_first o.secrets old.secrets new.secrets (taking.same_key o old new t a (tells o c.type_invariant.ensures)) own;
    })
