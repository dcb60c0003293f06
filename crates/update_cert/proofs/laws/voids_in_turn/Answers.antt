use Rattle.update_cert.proofs.VoidLaws.{at_turn, joined, ascend}
use Rattle.update_cert.proofs.laws.voids_in_turn.Goals as goal

pub returns-clause-at_turn : goal.returns-clause-at_turn
returns-clause-at_turn c = at_turn

pub returns-clause-joined : goal.returns-clause-joined
returns-clause-joined c = joined

pub returns-clause-ascend : goal.returns-clause-ascend
returns-clause-ascend c = ascend
