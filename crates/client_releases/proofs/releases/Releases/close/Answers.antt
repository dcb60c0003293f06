use Rattle.std.proofs.Common.{arith, ap, map, ◌∙◌}
use Rattle.leaf_ledger.specs.Ledger.{LedgerState}
use Rattle.client_releases.specs.Told.{Released}
use Rattle.client_releases.proofs.OwnKeys.{all_settled, back_counts, back_files, back_keys}
use Rattle.client_releases.proofs.releases.Releases.close.Goals as goal

pub close_before-requires-clause-settled : goal.close_before-requires-clause-settled
close_before-requires-clause-settled g c =
    let is = c.self.invariant.2 in
    all_settled _ (λ n small. is.settled n (omega (arith, small, is.as_many)))

pub returns-clause-keys : goal.returns-clause-keys
returns-clause-keys g c =
    let spare = c.self.inside.spare in
    back_keys g.L.Device.history g.L.Device.fault_count c.self.inside.keys.items c.close_before.result.items spare.items (omega (arith, spare.ok, c.self.invariant.0)) c.close_before.ensures
    ∙ ap (λ (r : Released). r.secrets) c.self.view_is

pub returns-clause-ledgers : goal.returns-clause-ledgers
returns-clause-ledgers g c =
    let spare = c.self.inside.spare in
    back_files g.L.Device.history g.L.Device.fault_count c.self.inside.keys.items c.close_before.result.items spare.items (omega (arith, spare.ok, c.self.invariant.0)) c.close_before.ensures
    ∙ ap (λ (r : Released). map (λ (l : LedgerState). l.file) r.devices.ledgers) c.self.view_is

pub returns-clause-faults : goal.returns-clause-faults
returns-clause-faults g c =
    let spare = c.self.inside.spare in
    back_counts g.L.Device.history g.L.Device.fault_count c.self.inside.keys.items c.close_before.result.items spare.items (omega (arith, spare.ok, c.self.invariant.0)) c.close_before.ensures
    ∙ ap (λ (r : Released). map (λ (l : LedgerState). l.faults) r.devices.ledgers) c.self.view_is
