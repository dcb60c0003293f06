use Rattle.std.proofs.Common.{arith, map}
use Rattle.client_releases.proofs.Opening.{untouched_opening}
use Rattle.client_releases.proofs.OwnKeys.{untouched_counts}
use Rattle.client_verify.proofs.GenesisLaws.{has_genesis, has_table}
use Rattle.client_verify.proofs.Releasing.{first_signed}
use Rattle.client_verify.proofs.client.Client.open.Goals as goal

pub returns-in_default-clause-moments_err : goal.returns-in_default-clause-moments_err
returns-in_default-clause-moments_err g c = untouched_opening (map (λ k. g.L.Device.history k.1) c.args.keys.items) (g.J.Device.history c.args.journal)

pub returns-in_default-clause-later_err : goal.returns-in_default-clause-later_err
returns-in_default-clause-later_err g c = (untouched_counts (map (λ k. g.L.Device.fault_count k.1) c.args.keys.items), omega arith)

pub invariant_of-result : goal.invariant_of-result
invariant_of-result g c = (record { of_checked = tt; of_accepted = tt }, first_signed c.in-Ok-open.releases c.first_signer-signer.result c.first_signer-signer.ensures)

pub returns-in-Ok-open-clause-genesis : goal.returns-in-Ok-open-clause-genesis
returns-in-Ok-open-clause-genesis g c =
    has_genesis c.args.pinned c.in-Ok.blocks c.in-Ok.ensures

pub returns-in-Ok-open-clause-table_file : goal.returns-in-Ok-open-clause-table_file
returns-in-Ok-open-clause-table_file g c =
    let same = c.as_bytes-size.ensures.same in
    has_table c.args.pinned c.in-Ok.blocks (rw same at c.as_bytes-size.ensures.size) c.in-Ok.ensures
