-- I-nodes: `SIN1`, a kind, a size in bytes, and the digests of as many blocks as that size takes, after their count.
-- The bytes stand in docs/FORMATS.md.
use Rattle.std.specs.Prelude.{ℕ, ◌+◌, ◌-◌, ◌/◌, List, codes, ◌==◌, if◌then◌else◌}
use Rattle.std.specs.Int.{w8, w16, w32}
use Rattle.layout.specs.Types.{Digest}
use Rattle.layout.specs.Format.{Format, uint_in, raw, followed, headed, mapped, listed}
use Rattle.itable.specs.declared.inode.Kind.{Kind}
use Rattle.itable.specs.declared.inode.TheConstants.{BLOCK_SIZE, DIRECTORY_SIZE, FILE_SIZE}
use Rattle.itable.specs.declared.inode.Kind.TheVariants.{File, Directory}

-- an i-node without where it lies in memory
pub record Inode : Type 0 where
  pub kind : Kind
  pub size : ℕ
  -- the digests of the blocks, in order
  pub blocks : List Digest

-- how many blocks of 4,096 bytes so many bytes take
abbrev pub block_count : ℕ → ℕ
block_count size = (size + (BLOCK_SIZE - 1)) / BLOCK_SIZE

abbrev pub number_of : Kind → ℕ
number_of File = 1
number_of Directory = 2

abbrev pub kind_of : ℕ → Kind
kind_of n = if n == 1 then File else Directory

abbrev pub kind : Format Kind
kind = mapped kind_of number_of (uint_in w8 1 2)

-- how many bytes a file has, or the text of a directory
abbrev pub size : Kind → Format ℕ
size File = uint_in w32 0 FILE_SIZE
size Directory = uint_in w32 6 DIRECTORY_SIZE

-- that many digests, after their count
abbrev pub digests : ℕ → Format (List Digest)
digests count = listed (uint_in w16 count count) (λ _. raw 32)

abbrev pub inode : Format Inode
inode =
    headed (codes "SIN1")
    (mapped (λ (kind, (size, blocks)). record { kind = kind; size = size; blocks = blocks })
    (λ i. (i.kind, (i.size, i.blocks)))
    (followed kind (λ k. followed (size k) (λ bytes. digests (block_count bytes)))))
