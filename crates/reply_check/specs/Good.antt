-- Lists that break no rule, and what comes of them.
use Rattle.std.specs.Prelude.{ℕ, List}
use Rattle.std.specs.Ordering.{nat_cmp}
use Rattle.layout.specs.Ascending.{with_row}
use Rattle.layout.specs.Types.{Key}
use Rattle.version_order.specs.declared.structure.GroupRecord.{GroupRecord}
use Rattle.version_order.specs.Plan.{Plan}
use Rattle.version_order.specs.Structure.{Structure}
use Rattle.version_order.specs.Vector.{version_of}
use Rattle.pending_list.specs.declared.signed.Signed.{Signed}
use Rattle.pending_list.specs.Groups.{table_version}
use Rattle.pending_list.specs.Reply.{user_of}
use Rattle.principals.specs.Table.{Table}
use Rattle.reply_rules.specs.Lists.{Lists}
use Rattle.client_tree.specs.View.{View}
use Rattle.client_tree.specs.Tree.{Stored}
use Rattle.reply_check.specs.FirstBroken.{view_over}

-- lists that break no rule by this table of principals, of which the own changes with these numbers have no effect
pub record Good : Type 0 where
  pub lists : Lists
  pub table : Table
  pub void : List ℕ

-- the view of good lists
abbrev pub view_of : Key → Good → View
view_of key x = view_over key x.table x.lists

-- the record of a group's part, as it is stored, after an operation over this plan
abbrev pub record_over : Plan → Stored → GroupRecord
record_over plan s =
    record {
      group = s.principal;
      version = version_of s.principal plan.vector;
      table = table_version plan;
      handle = s.handle;
    }

-- the structures, which ascend by user, with this one in its user's place
abbrev pub with_own : Signed Structure → List (Signed Structure) → List (Signed Structure)
with_own z zs = with_row nat_cmp user_of zs z
