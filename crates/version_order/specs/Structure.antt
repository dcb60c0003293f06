-- Version structures: `SVS1`, the plan of an operation, the handle of the user's own i-table after it, and a record
-- for each group of which the user wrote a state, ascending by group.
-- The bytes stand in docs/FORMATS.md.
use Rattle.std.specs.Prelude.{List, codes}
use Rattle.std.specs.Int.{w8, w32}
use Rattle.std.specs.Ordering.{nat_cmp}
use Rattle.layout.specs.Types.{Digest, Handle, Group}
use Rattle.layout.specs.Format.{Format, RowAfter, uint_in, raw, pair, headed, guarded, mapped, listed, nested}
use Rattle.layout.specs.Ranges.{group, version, size}
use Rattle.layout.specs.Ascending.{above}
use Rattle.layout.specs.Hash.{hash}
use Rattle.layout.specs.declared.error.ReadError.TheVariants.{Order}
use Rattle.version_order.specs.declared.structure.GroupRecord.{GroupRecord}
use Rattle.version_order.specs.Plan.{Plan, plan}

-- a version structure without where it lies in memory
pub record Structure : Type 0 where
  pub plan : Plan
  pub handle : Handle
  pub groups : List GroupRecord

-- the key by which records ascend
abbrev pub group_of : GroupRecord → Group
group_of r = r.group

abbrev pub group_record : RowAfter GroupRecord
group_record before =
    mapped (λ (group, (version, (table, handle))). record {
      group = group;
      version = version;
      table = table;
      handle = handle;
    }) (λ r. (r.group, (r.version, (r.table, r.handle))))
    (pair (guarded group (above nat_cmp group_of before) Order)
    (pair version (pair (uint_in w32 0 4294967295) (raw 32))))

abbrev pub group_records : Format (List GroupRecord)
group_records = listed (uint_in w8 0 255) group_record

abbrev pub structure : Format Structure
structure =
    headed (codes "SVS1")
    (mapped (λ (plan, (handle, groups)). record { plan = plan; handle = handle; groups = groups })
    (λ s. (s.plan, (s.handle, s.groups)))
    (pair (nested size plan) (pair (raw 32) group_records)))

-- the digest of a structure is that of its text, without signature
abbrev pub digest_of_structure : Structure → Digest
digest_of_structure s = hash (structure.spell s)
