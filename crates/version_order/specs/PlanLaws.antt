-- Nobody has to believe this file: laws, which are proved.
-- Plans: what is read is spelled so, what fits and is spelled so is read, and how long it is at most.
use Rattle.std.proofs.Common.{arith}
use Rattle.std.specs.Prelude.{Option, codes}
use Rattle.std.specs.Int.{w8, w32}
use Rattle.layout.specs.Laws.{laws, in_range, wide8, wide32}
use Rattle.layout.specs.Format.{Lawful}
use Rattle.layout.specs.Sizes.{AtMost, KeysAscend, at_most_ascending, at_most_headed, at_most_mapped, at_most_pair, at_most_guarded, at_most_uint_in, at_most_raw}
use Rattle.layout.specs.Ranges.{user}
use Rattle.layout.specs.AscendingKeys.{keys_ascend}
use Rattle.version_order.specs.declared.plan.TheConstants.{PLAN_SIZE}
use Rattle.version_order.specs.declared.plan.Entry.{Entry}
use Rattle.version_order.specs.VectorLaws.{lawful_vector, at_most_vector}
use Rattle.version_order.specs.Plan.{user_of, entry, entries, plan}

pub lawful_entry : (before : Option Entry) → Lawful (entry before)
lawful_entry before = search laws depth 9

pub lawful_entries : Lawful entries
lawful_entries = search (laws, lawful_entry)

pub lawful_plan : Lawful plan
lawful_plan = search (laws, lawful_vector, lawful_entries) depth 12

-- ---- sizes

pub entries_ascend : KeysAscend entry user_of 0 64
entries_ascend = keys_ascend entry user_of 0 64 (λ b e fits.
    let range = in_range w8 0 63 e.user fits.0.0 in
    (fits.0.1, (omega arith, omega (arith, range.1))))

at_most_entry : (b : Option Entry) → AtMost (entry b) 37
at_most_entry b =
    at_most_mapped _ _ _ 37 (at_most_pair _ _ 1 36 (at_most_guarded _ _ _ 1 (at_most_uint_in w8 0 63 wide8)) (at_most_pair _ _ 4 32 (at_most_uint_in w32 1 4294967295 wide32) (at_most_raw 32)))

at_most_entries : AtMost entries 2369
at_most_entries = at_most_ascending w8 255 entry user_of 0 64 37 wide8 entries_ascend at_most_entry

pub at_most_plan : AtMost plan PLAN_SIZE
at_most_plan =
    at_most_headed (codes "SVP1") _ 2887
    (at_most_mapped _ _ _ 2887 (at_most_pair _ _ 1 2886 (at_most_uint_in w8 0 63 wide8)
    (at_most_pair _ _ 4 2882 (at_most_uint_in w32 1 4294967295 wide32) (at_most_pair _ _ 32 2850 (at_most_raw 32) (at_most_pair _ _ 481 2369 at_most_vector at_most_entries)))))
