-- Nobody has to believe this file: an aid of private contracts.
-- Where blocks stand in a file, and where they are looked for.
use Rattle.std.specs.Prelude.{◌≡◌, ℕ, ◌+◌, ◌≤◌, List, ◌∷◌, ◌++◌, Option, Some, length, take, drop}
use Rattle.layout.specs.Hash.{hash}
use Rattle.layout.specs.Types.{Bytes, Digest}
use Rattle.leaf_ledger.specs.Device.{Disk}
use Rattle.leaf_ledger.specs.Writes.{AreAfter}
use Rattle.block_file.specs.Blocks.{Block, size_of_head, spelled, chain, IsBlock, Reaches, Ends}

-- where the text of a block stands, and how many bytes it has
pub record Place : Type 0 where
  pub at : ℕ
  pub size : ℕ

-- there a block begins, whose text stands at a place
pub record BeginsAt (file : Bytes) (from : ℕ) (digest : Digest) (place : Place) : Type 0 where
  pub at : place.at ≡ from + size_of_head
  pub text : Bytes
  pub size : length text ≡ place.size
  pub is_block : IsBlock (record { digest = digest; text = text })
  pub split : drop from file ≡ spelled (record { digest = digest; text = text }) ++ drop (place.at + place.size) file

-- What was synced has blocks up to a place; since then nothing was written before it.
pub record IsFront (disk : Disk) (place : ℕ) : Type 0 where
  pub front : ℕ
  pub before : front ≤ place
  pub blocks : List Block
  pub ends : Ends disk.synced_text front blocks
  pub after : AreAfter front disk.unsynced
  pub same : take front disk.text ≡ take front disk.synced_text

-- a block stands there: its text at this place
pub record StandsAt (blocks : List Block) (place : Place) (block : Block) : Type 0 where
  pub before : List Block
  pub after : List Block
  pub split : blocks ≡ before ++ block ∷ after
  pub at : place.at ≡ length (chain before) + size_of_head
  pub size : place.size ≡ length block.text

-- the place of a digest is that of a block which has it
pub record IsPlaceOf (blocks : List Block) (digest : Digest) (place : Place) : Type 0 where
  pub block : Block
  pub stands : StandsAt blocks place block
  pub digest_is : block.digest ≡ digest

-- ... and whose text has it
pub record IsTruePlace (blocks : List Block) (digest : Digest) : Type 0 where
  pub place : Place
  pub is : IsPlaceOf blocks digest place
  pub true_text : hash is.block.text ≡ digest

-- The places where digests are looked for: each is that of a block with this digest, and where there is a block whose
-- text has it, it is that of one.
pub record IsIndex (look : Digest → Option Place) (blocks : List Block) : Type 0 where
  pub stands : (digest : Digest) (place : Place) → look digest ≡ Some place → IsPlaceOf blocks digest place
  pub found : (before after : List Block) (b : Block) → blocks ≡ before ++ b ∷ after → hash b.text ≡ b.digest
      → (true_place : IsTruePlace blocks b.digest) × (look b.digest ≡ Some true_place.place)

-- this is the text of a block whose place is that of its digest
pub record IsTextOf (look : Digest → Option Place) (blocks : List Block) (digest : Digest) (text : Bytes) : Type 0 where
  pub place : IsTruePlace blocks digest
  pub here : look digest ≡ Some place.place
  pub text_is : place.is.block.text ≡ text

-- no block's text has the digest that stands before it, and is this one
abbrev pub HasNone : List Block → Digest → Type 0
HasNone blocks digest = (before after : List Block) (b : Block) → blocks ≡ before ++ b ∷ after
    → b.digest ≡ digest → hash b.text ≡ digest → ⊥

-- up to there the blocks of the file are found
pub record IsFound (file : Bytes) (place : ℕ) (look : Digest → Option Place) : Type 0 where
  pub blocks : List Block
  pub reaches : Reaches file place blocks
  pub index : IsIndex look blocks

-- what is true of a file of blocks that can be used
pub record IsSound (disk : Disk) (place : ℕ) (look : Digest → Option Place) : Type 0 where
  pub blocks : List Block
  pub ends : Ends disk.text place blocks
  pub front : IsFront disk place
  pub index : IsIndex look blocks
