-- The tree of a view: what the handles of its structures name, and on it the operations that are pending.
-- How it is read stands in docs/RULES.md.
use Rattle.std.specs.Prelude.{ℕ, ◌==◌, Bool, false, ◌&&◌, List, [], ◌∷◌, Option, Some, None, find, filter, nat_le, nat_lt, if◌then◌else◌}
use Rattle.std.specs.Option.{option_map, option_map_or}
use Rattle.layout.specs.Types.{Group, Handle, Key, Principal, User}
use Rattle.principals.specs.Table.{Table, is_member}
use Rattle.version_order.specs.declared.structure.GroupRecord.{GroupRecord}
use Rattle.version_order.specs.Vector.{version_of}
use Rattle.version_order.specs.Structure.{Structure}
use Rattle.principals.specs.TableText.{table}
use Rattle.update_cert.specs.World.{Actor, File, Principals, Tree, is_table}
use Rattle.update_cert.specs.Reading.{Reading, after_read, void_read}
use Rattle.pending_list.specs.declared.signed.Signed.{Signed}
use Rattle.pending_list.specs.Reply.{PendingItem}
use Rattle.pending_list.specs.Groups.{raises, raised_groups, table_version}
use Rattle.client_tree.specs.Genesis.{first_handle}

-- The lists of a reply: the latest structures, the pending operations of others, in order, and the own one, which is
-- the last; user 0's key, which every client knows; and the table of principals.
pub record View : Type 0 where
  pub key : Key
  pub table : Table
  pub structures : List (Signed Structure)
  pub others : List PendingItem
  pub own : PendingItem

-- ---- on which handle a part stands

-- the structure of a user
abbrev pub structure_of : User → List (Signed Structure) → Option (Signed Structure)
structure_of u zs = find (λ z. z.value.plan.user == u) zs

-- the record of a group
abbrev pub record_of : Group → List GroupRecord → Option GroupRecord
record_of g rs = find (λ r. r.group == g) rs

-- the one of greater version, of equal ones the first
abbrev pub newer : Option GroupRecord → Option GroupRecord → Option GroupRecord
newer None other = other
newer (Some r) other = if option_map_or (λ s. nat_lt r.version s.version) other false then other else Some r

-- the record of a group that has the greatest version
unfoldable pub newest : Group → List (Signed Structure) → Option GroupRecord
newest g [] = None
newest g (z ∷ zs) = newer (record_of g z.value.groups) (newest g zs)

-- A user's part stands on the handle of its structure, a group's on that of its newest record; without one it is as at
-- the beginning.
abbrev pub handle_in : Key → List (Signed Structure) → Principal → Handle
handle_in key zs p =
    if nat_lt p 64
    then option_map_or (λ z. z.value.handle) (structure_of p zs) (first_handle p key)
    else option_map_or (λ r. r.handle) (newest p zs) (first_handle p key)

abbrev pub handle_of : View → Principal → Handle
handle_of x p = handle_in x.key x.structures p

-- ---- which operations come after it

-- a user's own; of a group each that raises it beyond its newest record
unfoldable pub comes_after : View → Principal → PendingItem → Bool
comes_after x p i =
    if nat_lt p 64
    then i.cert.user == p
    else raises x.table p i
    && nat_lt (option_map_or (λ r. r.version) (newest p x.structures) 0) (version_of p i.plan.vector)

-- the operation is user 0's, and so comes after the table of principals that user 0's handle names
abbrev pub is_superusers : PendingItem → Bool
is_superusers i = i.cert.user == 0

-- a group of which the operation's user is a member, where membership is judged at its table version
abbrev pub acts_for : Table → PendingItem → Group → Bool
acts_for t i g = nat_le 64 g && is_member t g i.cert.user (table_version i.plan)

-- whose operation it is
abbrev pub actor_of : Table → PendingItem → Actor
actor_of t i = record { user = i.cert.user; number = i.cert.number; member = acts_for t i }

-- the tree after these operations, in turn
unfoldable pub after_items : Reading → Table → List PendingItem → Tree → Tree
after_items reads t [] tree = tree
after_items reads t (i ∷ is) tree = after_items reads t is (after_read reads (actor_of t i) i.cert.changes tree)

-- ---- the tree

-- What the handles name: at each i-number what the i-table has there, and at the place of the table of principals this
-- one, whose text is the file there.
abbrev pub named : Reading → Table → View → Tree
named reads users x p i = if is_table p i then Some (Principals users)
    else option_map reads.content (reads.inode p (handle_of x p) i)

-- before the own operation
abbrev pub tree_before : Reading → Table → View → Tree
tree_before reads users x p i = after_items reads x.table (filter (comes_after x p) x.others) (named reads users x) p i

-- after it, which is the last
abbrev pub tree : Reading → Table → View → Tree
tree reads users x = after_read reads (actor_of x.table x.own) x.own.cert.changes (tree_before reads users x)

-- what is read there: at the place of the table of principals the file of its text
abbrev pub shown : Reading → Table → View → Tree
shown reads users x p i = if is_table p i then Some (File (table.spell x.table)) else tree reads users x p i

-- the numbers of the own changes that have no effect
abbrev pub lost : Reading → Table → View → List ℕ
lost reads users x = void_read reads (actor_of x.table x.own) x.own.cert.changes (tree_before reads users x)

-- the principals whose parts the own operation may change: its user, and each group that it raises
abbrev pub written : View → List Principal
written x = x.own.cert.user ∷ raised_groups x.table x.own
