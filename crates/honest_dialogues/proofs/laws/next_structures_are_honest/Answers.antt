use Rattle.honest_dialogues.proofs.Signing.{each_signs_over}
use Rattle.honest_dialogues.proofs.laws.next_structures_are_honest.Goals as goal

pub returns : goal.returns
returns c = each_signs_over
