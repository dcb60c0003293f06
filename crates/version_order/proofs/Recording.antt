-- Group records as rows that ascend, and what setting one does.
use Rattle.std.proofs.Common.{◌≡◌, List, Result, Ok, Err, sym, subst, arith}
use Rattle.std.specs.Prelude.{OnOk, OnErr}
use Rattle.std.specs.Int.{w32}
use Rattle.std.specs.Ordering.{nat_cmp}
use Rattle.std.proofs.lemmas.Cmp.{nat_cmp_total}
use Rattle.layout.specs.Format.{uint_in, raw}
use Rattle.layout.specs.Ranges.{group, version}
use Rattle.layout.specs.Ascending.{with_row}
use Rattle.layout.specs.AscendingLaws.{Ordered}
use Rattle.version_order.specs.declared.structure.GroupRecord.{GroupRecord}
use Rattle.version_order.specs.Structure.{group_of, group_record, group_records}
use Rattle.version_order.specs.StructureLaws.{records_ascend}
use Rattle.version_order.proofs.Rows.{AreRows, rows_of, listed_with}

-- what each record is, wherever it stands
abbrev pub IsRecord : GroupRecord → Type 0
IsRecord r = group.Fits r.group × (version.Fits r.version × ((uint_in w32 0 4294967295).Fits r.table × (raw 32).Fits r.handle))

ordered : Ordered nat_cmp group_of nat_cmp_total group_record IsRecord
ordered = record {
  splits = λ b r fits. ((fits.0.0, fits.1), fits.0.1);
  joins = λ b r each up. ((each.0, up), each.1);
}

pub records_of : (rs : List GroupRecord) → group_records.Fits rs → AreRows group_of IsRecord rs
records_of = rows_of group_record group_of IsRecord ordered

-- the records fit where one was set, and where none was
pub fits_set : {X E : Type 0} (r : Result X E) (x : GroupRecord) (old new : List GroupRecord)
    → IsRecord x
    → group_records.Fits old
    → OnOk r (new ≡ with_row nat_cmp group_of old x)
    → OnErr r (new ≡ old)
    → group_records.Fits new
fits_set (Ok _) x old new one fits ok err =
    subst group_records.Fits (sym ok) (listed_with group_record group_of IsRecord ordered 64 32 records_ascend (omega arith) old x one fits)
fits_set (Err _) x old new one fits ok err = subst group_records.Fits (sym err) fits
