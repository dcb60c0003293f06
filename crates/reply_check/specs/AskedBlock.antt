-- A block that was asked for, and what was handed in for it.
use Rattle.std.specs.Prelude.{Bool, true, false, ◌&&◌, [], ◌∷◌, Option}
use Rattle.std.specs.Option.{option_map_or}
use Rattle.std.specs.Str.{bytes_eq}
use Rattle.layout.specs.Hash.{hash}
use Rattle.layout.specs.Types.{Bytes}
use Rattle.tree_parts.specs.Blocks.{Blocks}
use Rattle.tree_parts.specs.Spot.{takes}
use Rattle.reply_rules.specs.Broken.{least}
use Rattle.reply_rules.specs.declared.rule.Rule.{Rule}
use Rattle.reply_rules.specs.declared.rule.Rule.TheVariants as rule
use Rattle.reply_check.specs.declared.asked.Asked.{Asked}

-- no other text is held under the text's digest
abbrev pub is_only : Blocks → Bytes → Bool
is_only blocks text = option_map_or (λ held. bytes_eq held text) (blocks (hash text)) true

-- a block was handed in, has the digest that was asked for, and no other text of that digest is held
abbrev pub block : Blocks → Asked → Option Bytes → Bool
block blocks a handed = option_map_or (λ b. bytes_eq (hash b) a.digest && is_only blocks b) handed false

-- it is what its place asks for
abbrev pub content : Blocks → Asked → Option Bytes → Bool
content blocks a handed = option_map_or (takes blocks a.spot) handed false

-- the first of these rules that what was handed in for a block breaks
abbrev pub block_breaks : Blocks → Asked → Option Bytes → Option Rule
block_breaks blocks a handed = least ((rule.Block, block blocks a handed) ∷ (rule.Content, content blocks a handed) ∷ [])
