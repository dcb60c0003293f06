use Rattle.std.proofs.Common.{IfOk, ◌∙◌, ◌≡◌, ap, subst, sym}
use Rattle.client_runs.specs.declared.slot.Slot.{Slot}
use Rattle.client_steps.specs.Steps.{Client, Open, Owner}
use Rattle.client_runs.specs.Runs.{owner}
use Rattle.client_runs.specs.Carried.{ComesOf, script_keys}
use Rattle.client_runs.specs.Slots.{AreFirst, IsOf, client_in}
use Rattle.client_runs.proofs.Taking as taking
use Rattle.client_runs.proofs.slot.step.Goals as goal

pub returns-in_ok-parts-in-Unmade-clause-step : goal.returns-in_ok-parts-in-Unmade-clause-step
returns-in_ok-parts-in-Unmade-clause-step g c =
    let o : Owner = owner script_keys c.args.user in
    let named = c.in_ok-parts-in-Unmade.ensures.client ∙ sym (ap (λ (s : Slot g.row.A.Denot). client_in s) c.in-Unmade.is) in
    subst (λ (k : Client). IfOk c.closed_step.result (λ r. ComesOf o k c.args.act.now r.1 (client_in r.0))) named c.closed_step.ensures.step

pub returns-in-Open-clause-step : goal.returns-in-Open-clause-step
returns-in-Open-clause-step g c =
    let o : Owner = owner script_keys c.args.user in
    let t = c.args.act.now in
    let s = c.in-Open.client in
    let named : Open s ≡ client_in c.args.slot = sym (ap (λ (x : Slot g.row.A.Denot). client_in x) c.in-Open.is) in
    taking.on_each c.open_step.result (λ r. (whose : Owner) → ComesOf whose (Open s) t r.1 (client_in r.0)) (λ r. ComesOf o (client_in c.args.slot) t r.1 (client_in r.0)) c.open_step.ensures.step
    (λ r told. taking.comes_from o (Open s) (client_in c.args.slot) t r.1 (client_in r.0) named (told o))

pub returns-in-Open-clause-own : goal.returns-in-Open-clause-own
returns-in-Open-clause-own g c =
    let o : Owner = owner script_keys c.args.user in
    let s = c.in-Open.client in
    let own = subst (λ (x : Slot g.row.A.Denot). IsOf o x) c.in-Open.is c.requires.own in
    taking.on_each c.open_step.result (λ r. (whose : Owner) → AreFirst s.secrets whose.secrets → IsOf whose r.0) (λ r. IsOf o r.0) c.open_step.ensures.own
    (λ r kept. kept o own)
