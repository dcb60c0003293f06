-- Blocks in a file, one after another, and which texts the file keeps.
-- The bytes stand in docs/FORMATS.md.
use Rattle.std.specs.Prelude.{◌≡◌, ◌⊎◌, ℕ, Bool, ◌+◌, ◌<◌, ◌≤◌, List, [], ◌∷◌, ◌++◌, length, take, drop}
use Rattle.std.specs.Int.{w32, to_be_bytes, from_be_bytes}
use Rattle.layout.specs.Hash.{hash}
use Rattle.layout.specs.Types.{Bytes, Digest}
use Rattle.leaf_ledger.specs.Device.{History}

-- a text, and a digest that stands before it
pub record Block : Type 0 where
  pub digest : Digest
  pub text : Bytes

-- the most bytes that a block has
abbrev pub size_limit : ℕ
size_limit = 32779

abbrev pub size_of_head : ℕ
size_of_head = 36

-- the length of the text, and the digest
unfoldable pub head : ℕ → Digest → Bytes
head size digest = to_be_bytes w32 size ++ digest

abbrev pub spelled : Block → Bytes
spelled b = head (length b.text) b.digest ++ b.text

abbrev pub chain : List Block → Bytes
chain [] = []
chain (b ∷ bs) = spelled b ++ chain bs

abbrev pub IsBlock : Block → Type 0
IsBlock b = (length b.digest ≡ 32) × (length b.text ≤ size_limit)

abbrev pub AreBlocks : List Block → Type 0
AreBlocks [] = Unit {0}
AreBlocks (b ∷ bs) = IsBlock b × AreBlocks bs

-- ---- what a file keeps

-- the file begins with these blocks, one after another
pub record StartsWith (blocks : List Block) (file : Bytes) : Type 0 where
  pub rest : Bytes
  pub split : file ≡ chain blocks ++ rest
  pub all : AreBlocks blocks

-- a text with its own digest
abbrev pub own : Bytes → Block
own text = record { digest = hash text; text = text }

-- The file keeps the text: after some blocks from its beginning on it stands there, with its own digest.
abbrev pub Keeps : Bytes → Bytes → Type 0
Keeps text file = (before : List Block) × StartsWith (before ++ own text ∷ []) file

-- The file keeps the text, and no other one of its digest.
abbrev pub KeepsAlone : Bytes → Bytes → Type 0
KeepsAlone text file = Keeps text file × ((other : Bytes) → Keeps other file → hash other ≡ hash text → other ≡ text)

-- ---- where the blocks end

-- the length that a head tells
unfoldable pub size_told : Bytes → ℕ
size_told bytes = from_be_bytes w32 (take 4 bytes)

-- These bytes begin with no block: they have no whole head, or it tells more bytes than a block has, or than there are.
abbrev pub IsNoBlock : Bytes → Type 0
IsNoBlock bytes =
    (length bytes < size_of_head) ⊎ ((size_limit < size_told bytes) ⊎ (length bytes < size_of_head + size_told bytes))

-- up to there the file is a chain of these blocks
pub record Reaches (file : Bytes) (place : ℕ) (blocks : List Block) : Type 0 where
  pub split : file ≡ chain blocks ++ drop place file
  pub size : length (chain blocks) ≡ place
  pub all : AreBlocks blocks

-- ... and there they end
pub record Ends (file : Bytes) (place : ℕ) (blocks : List Block) : Type 0 where
  pub reaches : Reaches file place blocks
  pub none : IsNoBlock (drop place file)

-- the blocks of the file end there
abbrev pub EndsAt : Bytes → ℕ → Type 0
EndsAt file place = (blocks : List Block) × Ends file place blocks

-- what is written after the last block: a length that none has
abbrev pub end_mark : Bytes
end_mark = 255 ∷ 255 ∷ 255 ∷ 255 ∷ []

-- a file of blocks as its callers see it
pub record BlockFile : Type 0 where
  pub file : History
  pub faults : ℕ
  -- where its blocks end, and where they have to end at last
  pub end : ℕ
  pub room : ℕ
  pub usable : Bool
