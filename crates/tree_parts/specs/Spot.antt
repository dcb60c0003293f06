-- Spots: the places at which blocks are asked for, and the texts that they take.
use Rattle.std.specs.Prelude.{ℕ, ◌+◌, ◌*◌, ◌-◌, ◌==◌, Bool, true, false, ◌&&◌, ◌||◌, not, ◌++◌, length, take, is_some, nat_lt, min}
use Rattle.std.specs.List.{list_any}
use Rattle.std.specs.Option.{option_map_or}
use Rattle.std.specs.Result.{result_ok}
use Rattle.layout.specs.Format.{Format, whole}
use Rattle.layout.specs.Types.{Bytes, Digest, INumber, Principal}
use Rattle.itable.specs.Inode.{Inode, inode, block_count}
use Rattle.itable.specs.Root.{Root, root}
use Rattle.itable.specs.Chunk.{Chunk, chunk}
use Rattle.itable.specs.declared.inode.Kind.{Kind}
use Rattle.itable.specs.declared.inode.TheConstants.{BLOCK_SIZE}
use Rattle.directory.specs.Directory.{directory}
use Rattle.principals.specs.TableText.{table}
use Rattle.itable.specs.declared.inode.Kind.TheVariants as kind
use Rattle.tree_parts.specs.declared.spot.Spot.{Spot}
use Rattle.tree_parts.specs.declared.spot.Spot.TheVariants as spot
use Rattle.tree_parts.specs.Blocks.{Blocks, inode_at, joined, of_size}

abbrev pub is_of_file : Kind → Bool
is_of_file kind.File = true
is_of_file kind.Directory = false

-- the root of the principal's i-table; user 0's lists chunk 0, which has the table of principals
abbrev pub takes_root : Principal → Root → Bool
takes_root p r = (r.principal == p) && (not (p == 0) || list_any (λ c. c.number == 0) r.chunks)

-- the chunk of this number; user 0's chunk 0 has i-number 1, the table of principals
abbrev pub takes_chunk : Principal → ℕ → Chunk → Bool
takes_chunk p n c = (c.number == n) && (not ((p == 0) && (n == 0)) || list_any (λ x. x.i_number == 1) c.pairs)

-- an i-node; at user 0's i-number 1 that of a file with at least one byte, since the table of principals stands there
abbrev pub takes_inode : Principal → INumber → Inode → Bool
takes_inode p i n = not ((p == 0) && (i == 1)) || (is_of_file n.kind && nat_lt 0 n.size)

-- how many bytes a block has, of so many bytes in all: 4,096, and the last one what is left over
abbrev pub size_of_block : ℕ → ℕ → ℕ
size_of_block size k = min BLOCK_SIZE (size - BLOCK_SIZE * k)

-- a block of a file has its size
abbrev pub takes_file_block : ℕ → Bytes → Inode → Bool
takes_file_block k text n = is_of_file n.kind
    && (nat_lt k (block_count n.size) && (length text == size_of_block n.size k))

-- the last block of a text in a format is, after the others, what makes the text
abbrev pub completes : {T : Type 0} → Format T → Blocks → Inode → ℕ → Bytes → Bool
completes f blocks n k text = option_map_or (λ before. is_some (of_size f n.size (before ++ text)))
    (joined blocks (take k n.blocks)) false

-- a block of such a text has its size, and the last one completes it
abbrev pub is_block_of : {T : Type 0} → Format T → Blocks → ℕ → Bytes → Inode → Bool
is_block_of f blocks k text n =
    nat_lt k (block_count n.size)
    && ((length text == size_of_block n.size k) && (nat_lt (k + 1) (block_count n.size) || completes f blocks n k text))

-- so it is of a directory
abbrev pub takes_block : Blocks → ℕ → Bytes → Inode → Bool
takes_block blocks k text n = not (is_of_file n.kind) && is_block_of directory blocks k text n

-- and of the table of principals, which is a file
abbrev pub takes_table_block : Blocks → ℕ → Bytes → Inode → Bool
takes_table_block blocks k text n = is_of_file n.kind && is_block_of table blocks k text n

-- the spot of a block of what an i-node of this kind is of
abbrev pub spot_of : Kind → Digest → ℕ → Spot
spot_of kind.File inode k = spot.File inode k
spot_of kind.Directory inode k = spot.Directory inode k

-- the text is what the spot asks for
unfoldable pub takes : Blocks → Spot → Bytes → Bool
takes blocks (spot.Root p) text = option_map_or (takes_root p) (result_ok (whole root text)) false
takes blocks (spot.Chunk p n) text = option_map_or (takes_chunk p n) (result_ok (whole chunk text)) false
takes blocks (spot.Inode p i) text = option_map_or (takes_inode p i) (result_ok (whole inode text)) false
takes blocks (spot.File d k) text = option_map_or (takes_file_block k text) (inode_at blocks d) false
takes blocks (spot.Directory d k) text = option_map_or (takes_block blocks k text) (inode_at blocks d) false
takes blocks (spot.Table d k) text = option_map_or (takes_table_block blocks k text) (inode_at blocks d) false

-- no text of this digest is held that the spot takes
abbrev pub lacks : Blocks → Digest → Spot → Bool
lacks blocks digest s = not (option_map_or (takes blocks s) (blocks digest) false)
