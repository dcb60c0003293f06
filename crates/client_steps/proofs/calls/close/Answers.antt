use Rattle.client_steps.specs.Steps.{Device}
use Rattle.client_steps.proofs.Opened.{handed_back}
use Rattle.client_steps.proofs.calls.close.Goals as goal

pub returns-clause-closed : goal.returns-clause-closed
returns-clause-closed g c =
    let e = c.close.ensures in
    let journal : Device = record { history = g.J.Device.history c.close.result.journal; faults = g.J.Device.fault_count c.close.result.journal } in
    λ o. handed_back g.L.Device.history g.L.Device.fault_count c.args.client c.close.result.keys.items journal e.ledgers e.faults e.journal e.journal_faults
