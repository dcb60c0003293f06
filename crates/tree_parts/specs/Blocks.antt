-- Blocks that are held, by digest, and what they tell of i-nodes, files, directories and i-tables.
use Rattle.std.specs.Prelude.{◌≡◌, ◌↔◌, ℕ, ◌==◌, List, [], ◌∷◌, ◌++◌, length, Option, Some, None, if◌then◌else◌}
use Rattle.std.specs.Option.{option_and_then, option_map}
use Rattle.std.specs.Result.{result_ok}
use Rattle.layout.specs.Format.{Format, whole}
use Rattle.layout.specs.Hash.{hash}
use Rattle.layout.specs.Types.{Bytes, Digest, Handle, INumber, Principal}
use Rattle.itable.specs.Inode.{Inode, inode}
use Rattle.itable.specs.Chunk.{Chunk, chunk, chunk_number}
use Rattle.itable.specs.Root.{Root, root, chunk_at}
use Rattle.itable.specs.ITable.{digest_in}
use Rattle.itable.specs.declared.root.ListedChunk.{ListedChunk}
use Rattle.itable.specs.declared.inode.Kind.TheVariants as kind
use Rattle.directory.specs.Directory.{Entry, directory}
use Rattle.principals.specs.Table.{Table}
use Rattle.principals.specs.TableText.{table}
use Rattle.update_cert.specs.World.{Content, File, Directory, Principals}
use Rattle.update_cert.specs.Reading.{Reading}

-- the text of a digest, if it is held
abbrev pub Blocks : Type 0
Blocks = Digest → Option Bytes

-- a text is held under its digest
abbrev pub IsHeld : Blocks → Bytes → Type 0
IsHeld blocks text = blocks (hash text) ≡ Some text

-- the i-node of a digest, if its text is held and is one
abbrev pub inode_at : Blocks → Digest → Option Inode
inode_at blocks digest = option_and_then (λ text. result_ok (whole inode text)) (blocks digest)

-- texts one after another, if all are held
unfoldable pub joined : Blocks → List Digest → Option Bytes
joined blocks [] = Some []
joined blocks (d ∷ ds) = option_and_then (λ text. option_map (λ rest. text ++ rest) (joined blocks ds)) (blocks d)

-- what a text of this size spells in a format, if it spells anything
abbrev pub of_size : {T : Type 0} → Format T → ℕ → Bytes → Option T
of_size f size text = if length text == size then result_ok (whole f text) else None

-- the directory that the blocks of an i-node spell, if they are held and spell one of the i-node's size
abbrev pub directory_over : Blocks → Inode → Option (List Entry)
directory_over blocks n = option_and_then (of_size directory n.size) (joined blocks n.blocks)

-- the table of principals that they spell, if they are held and spell one of the i-node's size
abbrev pub principals_over : Blocks → Inode → Option Table
principals_over blocks n = option_and_then (of_size table n.size) (joined blocks n.blocks)

-- the table that the i-node of a digest is of, if its text and its blocks are held and spell one
abbrev pub principals_at : Blocks → Digest → Option Table
principals_at blocks digest = option_and_then (principals_over blocks) (inode_at blocks digest)

-- the bytes, if they are as many as this
abbrev pub if_of_size : ℕ → Bytes → Option Bytes
if_of_size size bytes = if length bytes == size then Some bytes else None

-- the bytes that the blocks of an i-node make, if they are held and make as many as the i-node says
abbrev pub file_over : Blocks → Inode → Option Bytes
file_over blocks n = option_and_then (if_of_size n.size) (joined blocks n.blocks)

-- What a content is of an i-node: a file has as many bytes as it says, and those of the blocks where they are held; a
-- directory has the size 6 exactly where it is empty, and is the one that the blocks spell where they are held.
abbrev pub IsOf : Blocks → Inode → Content → Type 0
IsOf blocks n (File bytes) =
    (n.kind ≡ kind.File) × (length bytes ≡ n.size) × ((found : Bytes) → file_over blocks n ≡ Some found → found ≡ bytes)
IsOf blocks n (Directory entries) =
    (n.kind ≡ kind.Directory) × ((entries ≡ []) ↔ (n.size ≡ 6))
    × ((found : List Entry) → directory_over blocks n ≡ Some found → found ≡ entries)
IsOf blocks n (Principals t) = ⊥

-- ---- i-tables

-- the root of a handle, if its text is held and is one
abbrev pub root_at : Blocks → Handle → Option Root
root_at blocks handle = option_and_then (λ text. result_ok (whole root text)) (blocks handle)

-- the chunk of a digest, if its text is held and is one
abbrev pub chunk_held : Blocks → Digest → Option Chunk
chunk_held blocks digest = option_and_then (λ text. result_ok (whole chunk text)) (blocks digest)

-- what is told at an i-number of its chunk, if the root lists one: nothing where the chunk isn't held
abbrev pub told_by : Blocks → INumber → Option ListedChunk → Option (Option Digest)
told_by blocks i None = Some None
told_by blocks i (Some c) = option_map (λ x. digest_in x.pairs i) (chunk_held blocks c.digest)

abbrev pub told_under : Blocks → Principal → INumber → Root → Option (Option Digest)
told_under blocks p i r = if r.principal == p then told_by blocks i (chunk_at r (chunk_number i)) else None

-- What the held blocks tell at an i-number of a principal's i-table with this handle: nothing, or which digest is
-- there, if any is. They tell it where they have the root, and the chunk of the i-number if the root lists it.
abbrev pub inode_told : Blocks → Principal → Handle → INumber → Option (Option Digest)
inode_told blocks p handle i = option_and_then (told_under blocks p i) (root_at blocks handle)

-- ---- a reading tells what the held blocks tell

pub record Agrees (blocks : Blocks) (reads : Reading) : Type 0 where
  pub contents : (digest : Digest) (n : Inode) → inode_at blocks digest ≡ Some n → IsOf blocks n (reads.content digest)
  pub inodes : (p : Principal) (handle : Handle) (i : INumber) (told : Option Digest)
      → inode_told blocks p handle i ≡ Some told → reads.inode p handle i ≡ told

-- this holds of each reading that tells what the held blocks tell, whatever stands for the digests of which no block
-- tells
abbrev pub ForEachReading : Blocks → (Reading → Type 0) → Type 0
ForEachReading blocks P = (reads : Reading) → Agrees blocks reads → P reads
