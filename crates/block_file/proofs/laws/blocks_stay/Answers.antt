use Rattle.block_file.proofs.Lives.{blocks_stay}
use Rattle.block_file.proofs.laws.blocks_stay.Goals as goal

pub returns : goal.returns
returns c = blocks_stay
