-- Nobody has to believe this file: an aid of private contracts.
-- What one change makes of a principal's part, and what it asks for.
use Rattle.std.specs.Prelude.{◌≡◌, ◌⊎◌, ℕ, ◌==◌, Bool, true, false, length, ◌&&◌, not, List, Option, Some, None, if◌then◌else◌}
use Rattle.std.specs.Option.{option_map, option_map_or}
use Rattle.itable.specs.Inode.{Inode}
use Rattle.directory.specs.Directory.{Entry}
use Rattle.update_cert.specs.Change.{Action, Change}
use Rattle.layout.specs.Types.{Digest, INumber, Principal}
use Rattle.update_cert.specs.World.{Content, File, Directory, Principals, Actor, Tree, fits, has_effect, is_of}
use Rattle.update_cert.specs.Reading.{Reading}
use Rattle.tree_parts.specs.Blocks.{Blocks, ForEachReading}
use Rattle.tree_parts.specs.Spot.{lacks, size_of_block, spot_of}
use Rattle.tree_parts.specs.Part.{Part, Laid, content_of, handle, slot_here, slot_at}
use Rattle.itable.specs.declared.inode.Kind.{Kind}
use Rattle.itable.specs.declared.inode.Kind.TheVariants as kind
use Rattle.tree_parts.specs.Asked.{IsInode, IsBlock, IsBlockAfterHeld, IsChunkFor, asks, asks_slot, needs_inode, needs_entries}
use Rattle.tree_parts.specs.Slots.{slot_becomes}
use Rattle.tree_parts.specs.declared.error.ApplyError.{ApplyError}
use Rattle.tree_parts.specs.declared.error.ApplyError.TheVariants as error
use Rattle.tree_parts.specs.declared.spot.Spot.{Spot}
use Rattle.tree_parts.specs.declared.spot.Spot.TheVariants as spot

-- what stands at an i-number whose chunk is loaded
abbrev pub stands_here : Reading → Part → INumber → Option Content
stands_here reads part i = option_map (content_of reads) (slot_here part i)

-- both are one principal's, stand on one i-table, and have the same chunks loaded
pub record OnSame (old new : Part) : Type 0 where
  pub principal : new.table.principal ≡ old.table.principal
  pub before : new.before ≡ old.before
  pub unloaded : new.table.unloaded ≡ old.table.unloaded

-- an action at an i-number of the part's principal
abbrev pub change_at : Part → INumber → Action Digest → Change Digest
change_at part i action = record { principal = part.table.principal; i_number = i; action = action }

-- The answer tells whether the change, of this actor's operation, fits what stands at its i-number, whose chunk is
-- loaded. Where it does, the slot there is what the action makes of it; all else is as before.
pub record Acts (reads : Reading) (actor : Actor) (c : Change Digest) (old new : Part) (fitted : Bool) : Type 0 where
  pub is_fit : fitted ≡ fits actor c (stands_here reads old c.i_number)
  pub slots : (i : INumber) → slot_here new i ≡ (if fitted && (c.i_number == i) then slot_becomes reads c.action (slot_here old i) else slot_here old i)

-- the change is done in this principal's part, and has no effect on the tree
abbrev pub is_void_of : {C : Type 0} → Actor → Principal → Change C → Tree → Bool
is_void_of actor p c tree = is_of p c && not (has_effect actor c (tree c.principal c.i_number))

-- the entries, if a directory stands there
abbrev pub listed : Option Content → Option (List Entry)
listed None = None
listed (Some (File bytes)) = None
listed (Some (Directory entries)) = Some entries
listed (Some (Principals table)) = None

-- the digest is that of the i-node that the part has at this i-number, or, where entries are wanted, of a block of the
-- directory that it is of
abbrev pub LiesAt : Blocks → Part → INumber → Bool → Digest → Spot → Type 0
LiesAt blocks part i entries digest s =
    (inode : Digest) × (slot_here part i ≡ Some (Laid inode))
    × (IsInode part.table.principal i inode digest s ⊎ ((entries ≡ true) × IsBlock blocks kind.Directory inode digest s))

-- nothing of that is missing
abbrev pub HasAt : Blocks → Part → INumber → Bool → Type 0
HasAt blocks part i entries = (digest : Digest) (s : Spot) → LiesAt blocks part i entries digest s → lacks blocks digest s ≡ false

-- the action asks for it there
abbrev pub LiesFor : Blocks → Part → Change Digest → Digest → Spot → Type 0
LiesFor blocks part c digest s = (needs_inode c.principal c.i_number c.action ≡ true) × LiesAt blocks part c.i_number (needs_entries c.action) digest s

-- the digest is that of the i-node that lies there, or of a block of the directory that it is of, whatever stands for the
-- digests of which no block tells
abbrev pub LiesMet : Blocks → Part → Change Digest → Digest → Spot → Type 0
LiesMet blocks part c digest s =
    (inode : Digest) × ForEachReading blocks (λ reads. slot_at reads part c.i_number ≡ Some (Laid inode))
    × (IsInode part.table.principal c.i_number inode digest s
    ⊎ ((needs_entries c.action ≡ true) × IsBlock blocks kind.Directory inode digest s))

-- the change asks, at its turn, for the chunk of its i-number, or for that
abbrev pub LiesBy : Blocks → Actor → Part → Change Digest → Digest → Spot → Type 0
LiesBy blocks actor part c digest s =
    ((asks_slot actor c ≡ true) × IsChunkFor blocks part.table.principal (handle part) c.i_number digest s)
    ⊎ ((asks actor c ≡ true) × LiesMet blocks part c digest s)

-- nothing that the action asks for there is missing
abbrev pub HasFor : Blocks → Part → Change Digest → Type 0
HasFor blocks part c = needs_inode c.principal c.i_number c.action ≡ true → HasAt blocks part c.i_number (needs_entries c.action)

-- nor what the change asks for at its turn
abbrev pub HasBy : Blocks → Actor → Part → Change Digest → Type 0
HasBy blocks actor part c = (digest : Digest) (s : Spot) → LiesBy blocks actor part c digest s → lacks blocks digest s ≡ false

-- the digest is that of a block of this i-node, its spot is that block's, and the blocks before it are held
abbrev pub IsAfterHeld : Blocks → Kind → Digest → Digest → Spot → Type 0
IsAfterHeld blocks of inode digest s = (k : ℕ) × (s ≡ spot_of of inode k) × IsBlockAfterHeld blocks of inode k digest

-- a text of the size of the i-node's block at this place is held under this digest
abbrev pub IsSized : Blocks → Inode → ℕ → Digest → Type 0
IsSized blocks n k digest = option_map_or (λ bytes. length bytes == size_of_block n.size k) (blocks digest) false ≡ true

-- where the file is the table of principals, the place of its block is one of the table
abbrev pub table_spot : Spot → Spot
table_spot (spot.File inode k) = spot.Table inode k
table_spot other = other

abbrev pub as_table : ApplyError → ApplyError
as_table (error.Missing digest s) = error.Missing digest (table_spot s)
as_table error.Memory = error.Memory
