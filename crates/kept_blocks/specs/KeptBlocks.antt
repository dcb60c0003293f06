-- Blocks that were got or stored before.
-- The bytes stand in docs/FORMATS.md.
use Rattle.std.specs.Prelude.{ℕ, ◌+◌, ◌-◌, Bool, ◌&&◌, List, [], ◌∷◌, ◌++◌, length, drop, find, nat_le, bytes_eq, Option, codes, if◌then◌else◌}
use Rattle.std.specs.Int.{w16}
use Rattle.std.specs.Option.{option_map}
use Rattle.layout.specs.Types.{Bytes, Digest}
use Rattle.layout.specs.Format.{Format, RowAfter, headed, listed, mapped, pair, raw, string, uint_in}
use Rattle.layout.specs.Hash.{hash}
use Rattle.kept_blocks.specs.declared.blocks.TheConstants.{MOST_BLOCKS, MOST_BYTES}

-- a text, and the digest under which it was got or stored
pub record KeptBlock : Type 0 where
  pub digest : Digest
  pub text : Bytes

-- ---- the text

abbrev pub block : Format KeptBlock
block = mapped (λ (digest, text). record { digest = digest; text = text }) (λ b. (b.digest, b.text))
    (pair (raw 32) (string (uint_in w16 0 65535)))

abbrev pub row : RowAfter KeptBlock
row before = block

abbrev pub block_list : Format (List KeptBlock)
block_list = headed (codes "SKB1") (listed (uint_in w16 0 MOST_BLOCKS) row)

-- ---- what is found, and what is kept

-- it was got or stored under this digest, and its text has it
abbrev pub has_digest : Digest → KeptBlock → Bool
has_digest digest b = bytes_eq b.digest digest && bytes_eq (hash b.text) digest

-- the text of the first block of a digest
abbrev pub text_of : Digest → List KeptBlock → Option Bytes
text_of digest kept = option_map (λ b. b.text) (find (has_digest digest) kept)

-- with this one as the newest, unless it is too long; of more than the most that are kept the oldest goes
abbrev pub kept_with : KeptBlock → List KeptBlock → List KeptBlock
kept_with b kept = if nat_le (length b.text) MOST_BYTES
    then drop (length kept + 1 - MOST_BLOCKS) (kept ++ b ∷ []) else kept
