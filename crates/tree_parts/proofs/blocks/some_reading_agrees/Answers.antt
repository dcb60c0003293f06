use Rattle.tree_parts.proofs.SomeReading.{some_reading}
use Rattle.tree_parts.proofs.blocks.some_reading_agrees.Goals as goal

pub returns : goal.returns
returns c = some_reading
