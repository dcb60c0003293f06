use Rattle.std.proofs.Common.{[], arith, sym, subst}
use Rattle.std.specs.Int.{w8}
use Rattle.layout.specs.Format.{FitRows}
use Rattle.layout.specs.Laws.{listed_fits}
use Rattle.version_order.specs.Structure.{group_record, group_records}
use Rattle.version_order.proofs.structure.GroupRecords.new.Goals as goal

pub invariant_of-result : goal.invariant_of-result
unfolding FitRows
invariant_of-result g c = subst group_records.Fits (sym c.new.ensures.items) (listed_fits w8 255 group_record [] (omega arith) (omega arith) tt)
