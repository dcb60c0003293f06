use Rattle.client_steps.specs.Steps.{HasFirst, Owner, secrets_in}
use Rattle.client_runs.specs.Runs.{owner}
use Rattle.client_runs.specs.Carried.{script_keys}
use Rattle.client_runs.specs.Slots.{parts_in}
use Rattle.client_runs.proofs.Taking as taking
use Rattle.client_runs.proofs.slot.open.Goals as goal

pub returns-in_ok-client-in-Ok-clause-step : goal.returns-in_ok-client-in-Ok-clause-step
returns-in_ok-client-in-Ok-clause-step g c =
    let o : Owner = owner script_keys c.args.user in
    let whose : HasFirst c.args.user c.args.pinned (secrets_in c.args.parts.keys.items) o = taking.has_first o c.args.pinned (secrets_in c.args.parts.keys.items) c.requires.pinned c.requires.own in
    rw c.in_ok-client-in-Ok.ensures.same (taking.opens o (parts_in c.args.parts) c.in-Ok.client c.phase-phase.result c.in_ok-client-in-Ok.text
    (c.in-Ok.ensures.opened o whose) c.in-Ok.ensures.sound c.phase-phase.ensures (rw c.in_ok-client-in-Ok.ensures.ok at c.resent-text.ensures))

pub returns-in_ok-client-in-Ok-clause-own : goal.returns-in_ok-client-in-Ok-clause-own
returns-in_ok-client-in-Ok-clause-own g c =
    let o : Owner = owner script_keys c.args.user in
    rw c.in_ok-client-in-Ok.ensures.same (taking.same_first o.secrets (secrets_in c.args.parts.keys.items) c.in-Ok.client.secrets c.in-Ok.ensures.secrets c.requires.own)

pub returns-in-Err-clause-step : goal.returns-in-Err-clause-step
returns-in-Err-clause-step g c =
    let o : Owner = owner script_keys c.args.user in
    let whose : HasFirst c.args.user c.args.pinned (secrets_in c.args.parts.keys.items) o = taking.has_first o c.args.pinned (secrets_in c.args.parts.keys.items) c.requires.pinned c.requires.own in
    taking.refuses o (parts_in c.args.parts) {A = g.row.A.Denot} (parts_in c.in-Err.parts) c.in-Err.error (c.in-Err.ensures.refused o whose)

pub returns-in-Err-clause-own : goal.returns-in-Err-clause-own
returns-in-Err-clause-own g c =
    let o : Owner = owner script_keys c.args.user in
    taking.same_first o.secrets (secrets_in c.args.parts.keys.items) (secrets_in c.in-Err.parts.keys.items) c.in-Err.ensures.keys c.requires.own
