use Rattle.std.proofs.Common.{subst}
use Rattle.itable.specs.ITable.{IsTable}
use Rattle.itable.proofs.ChunkLaws.{no_text, chunk_reads, few_pairs}
use Rattle.itable.proofs.table.ITable.chunk_invariant.Goals as goal

pub returns : goal.returns
returns g c =
    let t = c.args.self.now in
    let n = c.args.number in
    let is = subst IsTable c.self.view_is c.self.invariant.is_table in
    record { absent = no_text t n; reads = chunk_reads t n is c.get-number.ensures.range; few = few_pairs t n is }
