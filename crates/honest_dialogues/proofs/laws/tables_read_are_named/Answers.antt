use Rattle.honest_dialogues.proofs.Reading.{each_read}
use Rattle.honest_dialogues.proofs.laws.tables_read_are_named.Goals as goal

pub returns : goal.returns
returns c = each_read
