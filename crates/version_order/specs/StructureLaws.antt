-- Nobody has to believe this file: laws, which are proved.
-- Structures: what is read is spelled so, what fits and is spelled so is read, and how long it is at most.
use Rattle.std.proofs.Common.{arith}
use Rattle.std.specs.Prelude.{Option, codes}
use Rattle.std.specs.Int.{w8, w16, w32}
use Rattle.layout.specs.Format.{nested, Lawful}
use Rattle.layout.specs.Laws.{laws, in_range, wide8, wide16, wide32}
use Rattle.layout.specs.Sizes.{AtMost, KeysAscend, at_most_ascending, at_most_headed, at_most_mapped, at_most_pair, at_most_guarded, at_most_uint_in, at_most_raw, at_most_nested, nested_fits}
use Rattle.layout.specs.Ranges.{group, size}
use Rattle.layout.specs.AscendingKeys.{keys_ascend}
use Rattle.version_order.specs.declared.structure.TheConstants.{STRUCTURE_SIZE}
use Rattle.version_order.specs.declared.structure.GroupRecord.{GroupRecord}
use Rattle.version_order.specs.Plan.{Plan, plan}
use Rattle.version_order.specs.PlanLaws.{lawful_plan, at_most_plan}
use Rattle.version_order.specs.Structure.{group_of, group_record, group_records, structure}

pub lawful_group_record : (before : Option GroupRecord) → Lawful (group_record before)
lawful_group_record before = search laws depth 12

pub lawful_group_records : Lawful group_records
lawful_group_records = search (laws, lawful_group_record)

pub lawful_structure : Lawful structure
lawful_structure = search (laws, lawful_plan, lawful_group_records) depth 9

-- ---- sizes

pub records_ascend : KeysAscend group_record group_of 64 96
records_ascend = keys_ascend group_record group_of 64 96 (λ b r fits.
    let range = in_range w8 64 95 r.group fits.0.0 in
    (fits.0.1, (range.0, omega (arith, range.1))))

at_most_group_record : (b : Option GroupRecord) → AtMost (group_record b) 41
at_most_group_record b =
    at_most_mapped _ _ _ 41 (at_most_pair _ _ 1 40 (at_most_guarded _ _ _ 1 (at_most_uint_in w8 64 95 wide8))
    (at_most_pair _ _ 4 36 (at_most_uint_in w32 1 4294967295 wide32) (at_most_pair _ _ 4 32 (at_most_uint_in w32 0 4294967295 wide32) (at_most_raw 32))))

at_most_group_records : AtMost group_records 1313
at_most_group_records = at_most_ascending w8 255 group_record group_of 64 32 41 wide8 records_ascend at_most_group_record

pub at_most_structure : AtMost structure STRUCTURE_SIZE
at_most_structure =
    at_most_headed (codes "SVS1") _ 4238
    (at_most_mapped _ _ _ 4238 (at_most_pair _ _ 2893 1345 (at_most_nested w16 0 65535 plan 2891 wide16 at_most_plan) (at_most_pair _ _ 32 1313 (at_most_raw 32) at_most_group_records)))

-- a plan can stand inside a structure
pub nested_plan : (p : Plan) → plan.Fits p → (nested size plan).Fits p
nested_plan = nested_fits w16 65535 plan 2891 at_most_plan (omega arith) (omega arith)
