-- The world of a line: what its operations make of the beginning. And that what a client reads of an accepted view is
-- the world of the view's line. How a view is read, and what changes do, stands in docs/RULES.md.
use Rattle.std.specs.Prelude.{◌≡◌, ◌⊎◌, ◌<◌, ◌&&◌, Bool, true, false, List, [], ◌∷◌, ◌++◌, Some, nat_le}
use Rattle.std.specs.List.{All, Contains}
use Rattle.std.specs.Option.{option_and_then, option_map}
use Rattle.layout.specs.Types.{Group, Handle, INumber, Key, Principal}
use Rattle.principals.specs.Table.{Table, genesis as first_table, is_member_now, lists_user}
use Rattle.principals.specs.TableText.{table}
use Rattle.version_order.specs.declared.structure.GroupRecord.{GroupRecord}
use Rattle.version_order.specs.Vector.{version_of}
use Rattle.update_cert.specs.Cert.{Cert}
use Rattle.update_cert.specs.Reading.{Reading, after_read, void_read}
use Rattle.update_cert.specs.World.{Actor, File, Principals, Tree, genesis, is_table, table_of}
use Rattle.pending_list.specs.Groups.{raises}
use Rattle.pending_list.specs.Reply.{PendingItem}
use Rattle.reply_rules.specs.Lists.{items, structure_of}
use Rattle.client_tree.specs.Genesis.{first_handle}
use Rattle.client_tree.specs.View.{acts_for, handle_of, lost, record_of, tree}
use Rattle.client_tree.specs.View as tree_spec
use Rattle.agreement.specs.Runs.{AreAccepted, NoViewCollision, View, user_of}
use Rattle.agreement.specs.Lines.{line}

-- ---- worlds

-- the table of principals in a tree
abbrev pub table_in : Tree → Table
table_in w = table_of (w 0 1)

-- a group of which the operation's user is a member in this tree
abbrev pub acts_in : Tree → Cert → Group → Bool
acts_in w c g = nat_le 64 g && is_member_now (table_in w) g c.user

-- whose operation it is
abbrev pub actor_in : Tree → Cert → Actor
actor_in w c = record { user = c.user; number = c.number; member = acts_in w c }

-- the tree after these operations, in turn
abbrev pub world_from : Reading → Tree → List Cert → Tree
world_from reads w [] = w
world_from reads w (c ∷ cs) = world_from reads (after_read reads (actor_in w c) c.changes w) cs

-- the world of a line, where user 0 has this key
abbrev pub world : Reading → Key → List Cert → Tree
world reads key l = world_from reads (genesis key) l

-- ---- what handles name

-- the i-table with this handle has what the principal has in this tree, but for the table of principals
abbrev pub Names : Reading → Principal → Handle → Tree → Type 0
Names reads p handle w = (i : INumber) → is_table p i ≡ false
    → option_map reads.content (reads.inode p handle i) ≡ w p i

-- and this one has at its place the file of this table's text
abbrev pub NamesTable : Reading → Handle → Table → Type 0
NamesTable reads handle t = option_map reads.content (reads.inode 0 handle 1) ≡ Some (File (table.spell t))

-- The handles of the beginning name the tree of the beginning.
pub record NameFirst (reads : Reading) (key : Key) : Type 0 where
  pub fits : table.Fits (first_table key)
  pub named : (p : Principal) → p < 96 → Names reads p (first_handle p key) (genesis key)
  pub users : NamesTable reads (first_handle 0 key) (first_table key)

-- the view as its tree is read
abbrev pub view_in : Key → View → tree_spec.View
view_in key x =
    record { key = key; table = x.table; structures = x.lists.structures; others = x.lists.others; own = x.lists.own }

-- The view was read, and its structure signed, as an honest client does.
pub record IsHonest (reads : Reading) (key : Key) (x : View) : Type 0 where
  -- the table that user 0's handle names; that by which the view was judged is the one after the pending operations
  pub users : Table
  pub users_fit : table.Fits users
  pub named : NamesTable reads (handle_of (view_in key x) 0) users
  pub pending : tree reads users (view_in key x) 0 1 ≡ Some (Principals x.table)
  -- the structure's handle names the own part after the own operation
  pub own_part : Names reads (user_of x) x.signed.handle (tree reads users (view_in key x))
  pub own_table : user_of x ≡ 0 → NamesTable reads x.signed.handle x.table × table.Fits x.table
  -- there is a new record of each group that the own operation raises, with the plan's version, whose handle names the
  -- group's part; other records are those of the user's structure before
  pub raised : (g : Group) → raises x.table g x.lists.own ≡ true
      → (r : GroupRecord) × (record_of g x.signed.groups ≡ Some r)
      × (r.version ≡ version_of g x.lists.own.plan.vector) × Names reads g r.handle (tree reads users (view_in key x))
  pub kept : (g : Group) → raises x.table g x.lists.own ≡ false
      → record_of g x.signed.groups ≡ option_and_then (λ z. record_of g z.value.groups)
      (structure_of (user_of x) x.lists)

-- what holds of each run without collisions, all of whose views are honest
abbrev pub EachHonestRun : (Reading → Key → List View → Type 0) → Type 0
EachHonestRun holds =
    (reads : Reading) (key : Key) (run : List View) → NameFirst reads key → AreAccepted run → NoViewCollision run
    → All (IsHonest reads key) run → holds reads key run

-- ---- views are worlds

-- the tree that is read of a view is the world of its line
abbrev pub AreWorlds : Reading → Key → List View → Type 0
AreWorlds reads key run =
    (x : View) → Contains run x → (honest : IsHonest reads key x) → (p : Principal) (i : INumber) → p < 96
    → tree reads honest.users (view_in key x) p i ≡ world reads key (line run x) p i

-- the numbers that it loses are those of the void changes of the own operation at its place
abbrev pub LoseVoid : Reading → Key → List View → Type 0
LoseVoid reads key run =
    (x : View) → Contains run x → (honest : IsHonest reads key x) → (before : List Cert)
    → line run x ≡ before ++ x.lists.own.cert ∷ []
    → lost reads honest.users (view_in key x)
    ≡ void_read reads (actor_in (world reads key before) x.lists.own.cert) x.lists.own.cert.changes
    (world reads key before)

-- who is a member at an operation's table version, by the view's table, is one in the world before the operation
abbrev pub JudgeAsWorld : Reading → Key → List View → Type 0
JudgeAsWorld reads key run =
    (x : View) (i : PendingItem) → Contains run x → Contains (items x.lists) i → (before after : List Cert)
    → line run x ≡ before ++ i.cert ∷ after → (g : Group)
    → acts_for x.table i g ≡ acts_in (world reads key before) i.cert g

-- each operation's user is listed in the world before it
abbrev pub AllListed : Reading → Key → List View → Type 0
AllListed reads key run =
    (x : View) → Contains run x → (before : List Cert) (c : Cert) (after : List Cert) → line run x ≡ before ++ c ∷ after
    → lists_user (table_in (world reads key before)) c.user ≡ true

-- ---- any operation, in any tree

-- it may change its user's own part, and that of a group of which the user is a member; so user 0 alone the table
abbrev pub MayChange : Tree → Cert → Principal → Type 0
MayChange w c p = (p ≡ c.user) ⊎ (acts_in w c p ≡ true)

-- all other parts stay
abbrev pub IsGuarded : Reading → Tree → Cert → Type 0
IsGuarded reads w c = (p : Principal) → MayChange w c p ⊎ ((i : INumber) → world_from reads w (c ∷ []) p i ≡ w p i)
