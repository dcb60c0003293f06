-- A principal's part of the tree, as a client has it: the i-table, as far as it is loaded, and the directories that
-- changed.
use Rattle.std.specs.Prelude.{◌≡◌, false, List, [], Option, Some, None, IsSome, if◌then◌else◌}
use Rattle.std.specs.Option.{option_map}
use Rattle.std.specs.Ordering.{nat_cmp}
use Rattle.layout.specs.Ascending.{Ascends, row_at}
use Rattle.itable.specs.ITable.{ITable, digest_at, handle_of, loaded}
use Rattle.directory.specs.Directory.{Entry}
use Rattle.layout.specs.Types.{Digest, Handle, INumber}
use Rattle.principals.specs.Table.{Table}
use Rattle.update_cert.specs.World.{Content, Directory, Principals, Tree, is_table}
use Rattle.update_cert.specs.Reading.{Reading}
use Rattle.tree_parts.specs.declared.part.Slot.{Slot as Held}
use Rattle.tree_parts.specs.declared.part.Slot.TheVariants as held

-- the entries of a directory at an i-number that changed, which the i-table's digest there doesn't tell any more
pub record Open : Type 0 where
  pub i_number : INumber
  pub entries : List Entry

pub record Part : Type 0 where
  -- the i-table that a handle names, and this table after changes
  pub before : ITable
  pub table : ITable
  pub opened : List Open

-- the handle that the part stands on
abbrev pub handle : Part → Handle
handle part = handle_of part.before

abbrev pub number_of : Open → INumber
number_of o = o.i_number

-- the entries at an i-number that was opened
abbrev pub opened_at : Part → INumber → Option (List Entry)
opened_at part i = option_map (λ o. o.entries) (row_at nat_cmp number_of part.opened i)

-- what a part has at an i-number: what the i-node of a digest is of, or a directory that changed, by the digest under
-- which it was laid and its entries now
pub data Slot : Type 0 where
  Laid : Digest → Slot
  Changed : Digest → List Entry → Slot

-- a slot in memory
abbrev pub slot_in : {A : Type 0} → Held A → Slot
slot_in (held.Laid digest) = Laid digest
slot_in (held.Changed digest entries) = Changed digest entries

-- the slot of a digest, where these entries are open or none are
abbrev pub slot_of : Option (List Entry) → Digest → Slot
slot_of None digest = Laid digest
slot_of (Some entries) digest = Changed digest entries

-- the slot at an i-number whose chunk is loaded
abbrev pub slot_here : Part → INumber → Option Slot
slot_here part i = option_map (slot_of (opened_at part i)) (digest_at part.table i)

-- The slot at an i-number: where its chunk isn't loaded, what the handle's i-table has there.
unfoldable pub slot_at : Reading → Part → INumber → Option Slot
slot_at reads part i =
    if loaded part.table i then slot_here part i
    else option_map Laid (reads.inode part.table.principal (handle part) i)

-- what it is
abbrev pub content_of : Reading → Slot → Content
content_of reads (Laid digest) = reads.content digest
content_of reads (Changed digest entries) = Directory entries

-- what stands at an i-number
abbrev pub stands_at : Reading → Part → INumber → Option Content
stands_at reads part i = option_map (content_of reads) (slot_at reads part i)

-- the part of an i-table before any change
abbrev pub part_of : ITable → Part
part_of table = record { before = table; table = table; opened = [] }

-- It is one principal's, and the same chunks are loaded before the changes and after. Opened directories ascend by
-- i-number, and have digests in the table.
pub record IsPart (part : Part) : Type 0 where
  pub principal : part.before.principal ≡ part.table.principal
  pub unloaded : part.before.unloaded ≡ part.table.unloaded
  pub ascending : Ascends nat_cmp number_of None part.opened
  pub mapped : (i : INumber) → IsSome (opened_at part i) → IsSome (digest_at part.table i)

-- at its place stands the table of principals
abbrev pub HasTable : Tree → Type 0
HasTable tree = (t : Table) × (tree 0 1 ≡ Some (Principals t))

-- The tree's part of this principal is this one, but for the table of principals: that is no part's.
pub record IsPartOf (reads : Reading) (part : Part) (tree : Tree) : Type 0 where
  pub has_table : HasTable tree
  pub stands : (i : INumber) → is_table part.table.principal i ≡ false
      → tree part.table.principal i ≡ stands_at reads part i
