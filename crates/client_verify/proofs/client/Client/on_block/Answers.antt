use Rattle.std.specs.Option.{option_copied}
use Rattle.client_verify.proofs.Standing.{block_stands, block_only, block_more}
use Rattle.client_verify.proofs.client.Client.on_block.Goals as goal

pub returns-clause-stands : goal.returns-clause-stands
returns-clause-stands g c = block_stands c.args.self.now c.args.self.now.checked (option_copied c.args.block) c.take_block.result c.take_block.new.self c.requires c.take_block.ensures.handed c.take_block.ensures.held

pub returns-clause-only : goal.returns-clause-only
returns-clause-only g c = block_only c.args.self.now c.args.self.now.checked (option_copied c.args.block) c.take_block.result c.take_block.new.self c.requires c.take_block.ensures.handed c.take_block.ensures.held

pub returns-clause-more : goal.returns-clause-more
returns-clause-more g c = block_more c.args.self.now c.args.self.now.checked (option_copied c.args.block) c.take_block.result c.take_block.new.self c.take_block.ensures.handed c.take_block.ensures.held
