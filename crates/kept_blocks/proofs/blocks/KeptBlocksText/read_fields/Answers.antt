use Rattle.std.proofs.Common.{◌≡◌, Ok, rules, arith}
use Rattle.kept_blocks.specs.KeptBlocks.{block_list}
use Rattle.kept_blocks.specs.KeptBlocksLaws.{lawful_block_list}
use Rattle.kept_blocks.proofs.blocks.KeptBlocksText.read_fields.Goals as goal

pub invariant_of-result : goal.invariant_of-result
invariant_of-result g c =
    let read : block_list.read c.args.reader.now ≡ Ok (c.in_ok-blocks.blocks.items, c.read_rows.new.reader) = search rules in
    let fits = (lawful_block_list.takes _ _ _ c.tag.ensures.bytes read).fits in
    search (rules, fits)
