-- The blocks that a client holds, by digest.
use Rattle.std.specs.Prelude.{◌≡◌, List, [], ◌∷◌, None, is_some, if◌then◌else◌}
use Rattle.std.specs.List.{All}
use Rattle.std.specs.Option.{option_map}
use Rattle.std.specs.Ordering.{nat_cmp}
use Rattle.std.specs.Cmp.Lexicographic.{slice_cmp}
use Rattle.std.specs.declared.cmp.Ordering.{Ordering}
use Rattle.layout.specs.Hash.{hash}
use Rattle.layout.specs.Types.{Bytes, Digest}
use Rattle.layout.specs.Ascending.{Ascends, row_at, with_row}
use Rattle.tree_parts.specs.Blocks.{Blocks}

-- a text, and its digest
pub record Block : Type 0 where
  pub digest : Digest
  pub text : Bytes

abbrev pub digest_of : Block → Digest
digest_of block = block.digest

-- digests stand in the order of their bytes
abbrev pub by_bytes : Digest → Digest → Ordering
by_bytes = slice_cmp nat_cmp

-- the text of a digest, if it is held
unfoldable pub held : List Block → Blocks
held blocks digest = option_map (λ b. b.text) (row_at by_bytes digest_of blocks digest)

-- the blocks with this text among them; one of its digest that is held already stays
unfoldable pub keeping : List Block → Bytes → List Block
keeping blocks text = if is_some (held blocks (hash text)) then blocks
    else with_row by_bytes digest_of blocks (record { digest = hash text; text = text })

-- and with all these, in turn
unfoldable pub keeping_all : List Block → List Bytes → List Block
keeping_all blocks [] = blocks
keeping_all blocks (text ∷ texts) = keeping_all (keeping blocks text) texts

-- each stands under the digest of its text, and none twice
pub record AreHeld (blocks : List Block) : Type 0 where
  pub hashed : All (λ b. hash b.text ≡ b.digest) blocks
  pub ascending : Ascends by_bytes digest_of None blocks
