use Rattle.honest_dialogues.proofs.Dialogues.{one_line}
use Rattle.honest_dialogues.proofs.laws.clients_stand_in_one_line.Goals as goal

pub returns : goal.returns
returns c keys naming moves is d = one_line keys naming is moves d
