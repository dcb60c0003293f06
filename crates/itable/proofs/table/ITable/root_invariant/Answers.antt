use Rattle.std.proofs.Common.{ap, subst}
use Rattle.itable.specs.ITable.{IsTable, handle_of}
use Rattle.itable.proofs.RootLaws.{root_reads, lists, few_listings}
use Rattle.itable.proofs.TableLaws.{same_table}
use Rattle.itable.proofs.HandleLaws.{known_by_handle}
use Rattle.itable.proofs.table.ITable.root_invariant.Goals as goal

pub returns : goal.returns
returns g c =
    let t = c.args.self.now in
    let is = subst IsTable c.self.view_is c.self.invariant.is_table in
    record {
      reads = root_reads t is;
      lists = λ n small. lists t n is small;
      few = few_listings t;
      known = λ u one of unloaded same. ap handle_of (same_table u t one is of unloaded same);
      knows = λ all u one every apart same. known_by_handle t u is one all every apart same;
    }
