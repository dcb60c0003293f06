-- Files laid in blocks: the file in pieces of 4,096 bytes, and the i-node that has their digests.
-- The bytes stand in docs/FORMATS.md.
use Rattle.std.specs.Prelude.{◌≡◌, ℕ, zero, suc, ◌<◌, ◌≤◌, List, [], ◌∷◌, length, take, drop, map, Contains}
use Rattle.layout.specs.Hash.{hash}
use Rattle.layout.specs.Types.{Bytes}
use Rattle.itable.specs.declared.inode.Kind.{Kind}
use Rattle.itable.specs.declared.inode.TheConstants.{BLOCK_SIZE, FILE_SIZE}
use Rattle.itable.specs.declared.inode.Kind.TheVariants.{File}
use Rattle.itable.specs.Inode.{Inode, block_count, inode}

-- the first so many pieces of a size
unfoldable pub pieces : ℕ → ℕ → Bytes → List Bytes
pieces size zero bytes = []
pieces size (suc count) bytes = take size bytes ∷ pieces size count (drop size bytes)

-- all the blocks: 4,096 bytes each, and what is left over
abbrev pub blocks_of : Bytes → List Bytes
blocks_of bytes = pieces BLOCK_SIZE (block_count (length bytes)) bytes

-- the i-node of bytes of this kind
abbrev pub inode_over : Kind → Bytes → Inode
inode_over kind bytes = record { kind = kind; size = length bytes; blocks = map hash (blocks_of bytes) }

abbrev pub inode_of : Bytes → Inode
inode_of file = inode_over File file

-- each has 4,096 bytes but the last, which has 1 to 4,096
abbrev pub AreBlocks : List Bytes → Type 0
AreBlocks [] = Unit {0}
AreBlocks (b ∷ []) = (0 < length b) × (length b ≤ BLOCK_SIZE)
AreBlocks (b ∷ c ∷ cs) = (length b ≡ BLOCK_SIZE) × AreBlocks (c ∷ cs)

-- no block of the one has the digest of a different block of the other
abbrev pub NoneCollide : List Bytes → List Bytes → Type 0
NoneCollide bs cs = (b c : Bytes) → Contains bs b → Contains cs c → hash b ≡ hash c → b ≡ c

-- no other file has this one's i-node, unless blocks collide
abbrev pub IsKnown : Bytes → Type 0
IsKnown file =
    (other : Bytes) → length other ≤ FILE_SIZE → NoneCollide (blocks_of file) (blocks_of other)
    → inode.spell (inode_of other) ≡ inode.spell (inode_of file) → other ≡ file
