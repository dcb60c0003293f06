use Rattle.std.proofs.Common.{◌≡◌, Ok, rules}
use Rattle.kept_blocks.specs.KeptBlocks.{block}
use Rattle.kept_blocks.specs.KeptBlocksLaws.{lawful_block}
use Rattle.kept_blocks.proofs.blocks.BlocksRowFormat.read_fields.Goals as goal

pub invariant_of-result : goal.invariant_of-result
invariant_of-result g c =
    let read : block.read c.args.reader.now ≡ Ok (record { digest = c.in_ok-digest.digest; text = c.in_ok-from_slice.field-0.items }, c.sized.new.self) = search rules in
    (lawful_block.takes _ _ _ c.digest.ensures.bytes read).fits
