-- Nobody has to believe this file: laws, which are proved.
-- Blocks that were kept: what is read is spelled so, and what fits and is spelled so is read.
use Rattle.layout.specs.Laws.{laws}
use Rattle.layout.specs.Format.{Lawful}
use Rattle.kept_blocks.specs.KeptBlocks.{block, block_list}

pub lawful_block : Lawful block
lawful_block = search laws depth 9

pub lawful_block_list : Lawful block_list
lawful_block_list = search (laws, lawful_block)
