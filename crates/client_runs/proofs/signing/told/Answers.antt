use Rattle.client_verify.specs.State.{AcceptedView}
use Rattle.client_runs.proofs.Telling.{accepted_by, copied}
use Rattle.client_runs.proofs.signing.told.Goals as goal

pub returns-clause-view : goal.returns-clause-view
returns-clause-view g c =
    let view = c.args.client.now.view in
    accepted_by {A = g.row.A.Denot} (record { text = c.args.text; structures = c.in_ok-structures.structures; table = c.in_ok-table.table; lost = c.in_ok-lost.lost }) view
    (copied (λ (v : AcceptedView). v.structures) view _ _ c.in_ok-structures.ensures c.structures.ensures)
    (copied (λ (v : AcceptedView). v.table) view _ _ c.in_ok-table.ensures c.table.ensures)
    (copied (λ (v : AcceptedView). v.lost) view _ _ c.in_ok-lost.ensures.items c.lost.ensures)
