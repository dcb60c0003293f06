-- What changes make of a part's slots, and the digests and texts that the slots then have.
use Rattle.std.specs.Prelude.{◌≡◌, ◌==◌, Bool, false, not, ◌&&◌, ◌||◌, List, [], ◌∷◌, ◌++◌, Option, Some, None, if◌then◌else◌}
use Rattle.std.specs.List.{All, flat_map, list_all}
use Rattle.std.specs.Option.{option_map, option_map_or}
use Rattle.std.specs.Str.{bytes_eq}
use Rattle.layout.specs.Hash.{hash}
use Rattle.itable.specs.Inode.{Inode, inode}
use Rattle.itable.specs.File.{blocks_of, inode_over}
use Rattle.itable.specs.ITable.{ITable, digest_at}
use Rattle.itable.specs.declared.inode.Kind.TheVariants as kind
use Rattle.directory.specs.Directory.{Entry, directory, linked, unlinked}
use Rattle.layout.specs.Types.{Bytes, Digest, INumber, Principal}
use Rattle.update_cert.specs.Change.{Action, Make, Put, Remove, Link, Unlink, AddUser, AddMember, DropMember, SetKey, Change}
use Rattle.update_cert.specs.World.{Content, Directory, Actor, entries_of, has_effect, is_table}
use Rattle.update_cert.specs.Reading.{Reading}
use Rattle.tree_parts.specs.Blocks.{Blocks, ForEachReading, IsHeld}
use Rattle.tree_parts.specs.Part.{Open, Slot, Laid, Changed, content_of}

-- what a slot holds, if it holds anything
abbrev pub content_in : Reading → Option Slot → Option Content
content_in reads s = option_map (content_of reads) s

-- the digest under which what a slot holds was laid
abbrev pub laid_under : Option Slot → Digest
laid_under (Some (Laid digest)) = digest
laid_under (Some (Changed digest entries)) = digest
laid_under None = []

-- what the slot of an action that has effect becomes
abbrev pub slot_becomes : Reading → Action Digest → Option Slot → Option Slot
slot_becomes reads (Make inode) s = Some (Laid inode)
slot_becomes reads (Put inode) s = Some (Laid inode)
slot_becomes reads Remove s = None
slot_becomes reads (Link entry) s = Some (Changed (laid_under s) (linked (entries_of (content_in reads s)) entry))
slot_becomes reads (Unlink name) s = Some (Changed (laid_under s) (unlinked (entries_of (content_in reads s)) name))
slot_becomes reads (AddUser u key) s = s
slot_becomes reads (AddMember g u) s = s
slot_becomes reads (DropMember g u) s = s
slot_becomes reads (SetKey u key) s = s

-- a change has effect on the slot at its i-number; the table of principals is no part's
unfoldable pub slot_changes : Reading → Actor → Change Digest → Option Slot → Bool
slot_changes reads actor c s = not (is_table c.principal c.i_number) && has_effect actor c (content_in reads s)

-- the slot of a change, after it
unfoldable pub slot_after_change : Reading → Actor → Change Digest → Option Slot → Option Slot
slot_after_change reads actor c s = if slot_changes reads actor c s then slot_becomes reads c.action s else s

-- a principal's slot at an i-number, after the changes in turn
unfoldable pub slot_after : Reading → Actor → Principal → INumber → List (Change Digest) → Option Slot → Option Slot
slot_after reads actor p i [] s = s
slot_after reads actor p i (c ∷ cs) s =
    if (c.principal == p) && (c.i_number == i) then slot_after reads actor p i cs (slot_after_change reads actor c s)
    else slot_after reads actor p i cs s

-- ---- what an i-table has of it

-- the i-node of a directory
abbrev pub directory_inode : List Entry → Inode
directory_inode entries = inode_over kind.Directory (directory.spell entries)

-- and its digest
abbrev pub directory_digest : List Entry → Digest
directory_digest entries = hash (inode.spell (directory_inode entries))

-- the digest that an i-table has of a slot
abbrev pub slot_digest : Slot → Digest
slot_digest (Laid digest) = digest
slot_digest (Changed digest entries) = directory_digest entries

-- the texts of a directory: its blocks in order, and its i-node
abbrev pub directory_texts : List Entry → List Bytes
directory_texts entries = blocks_of (directory.spell entries) ++ inode.spell (directory_inode entries) ∷ []

-- The directory and its i-node have texts, and whoever holds the directory's texts reads it from them: its digest stands
-- for it.
pub record IsReadBack (entries : List Entry) : Type 0 where
  pub fits : directory.Fits entries
  pub inode_fits : inode.Fits (directory_inode entries)
  pub reads : (blocks : Blocks) → ForEachReading blocks (λ reads. All (IsHeld blocks) (directory_texts entries)
      → reads.content (directory_digest entries) ≡ Directory entries)

-- the i-table has this digest at an i-number
abbrev pub has_digest : ITable → INumber → Digest → Bool
has_digest t i digest = option_map_or (λ stored. bytes_eq stored digest) (digest_at t i) false

-- the text is held, as this very text: it isn't enough that one of its digest is
abbrev pub holds : Blocks → Bytes → Bool
holds blocks text = option_map_or (λ held. bytes_eq held text) (blocks (hash text)) false

-- The directory has the digest that its i-number had before the operation, or the one under which it was laid in it, and
-- each of its texts is held: nothing of it is new.
abbrev pub is_stored : Blocks → ITable → ITable → Open → Bool
is_stored blocks before t o =
    (has_digest before o.i_number (directory_digest o.entries) || has_digest t o.i_number (directory_digest o.entries))
    && list_all (holds blocks) (directory_texts o.entries)

-- the texts of those that are new, ascending by i-number
unfoldable pub changed_texts : Blocks → ITable → ITable → List Open → List Bytes
changed_texts blocks before t opened = flat_map (λ o. if is_stored blocks before t o then [] else directory_texts o.entries) opened
