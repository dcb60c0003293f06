use Rattle.client_steps.specs.Steps.{Owner}
use Rattle.client_runs.specs.Runs.{owner}
use Rattle.client_runs.specs.Carried.{script_keys}
use Rattle.client_runs.specs.Slots.{parts_in}
use Rattle.client_runs.proofs.Taking as taking
use Rattle.client_runs.proofs.slot.gain.Goals as goal

pub returns-clause-step : goal.returns-clause-step
returns-clause-step g c =
    let o : Owner = owner script_keys c.args.user in
    taking.gains o (parts_in c.args.parts) {A = g.row.A.Denot} (parts_in c.in_ok-parts.parts) c.in_ok-parts.ensures.gained
