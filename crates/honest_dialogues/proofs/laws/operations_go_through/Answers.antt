use Rattle.honest_dialogues.proofs.GoingOn.{each_again_goes_through, each_declared_goes_through, each_goes_through}
use Rattle.honest_dialogues.proofs.laws.operations_go_through.Goals as goal

pub returns-clause-next : goal.returns-clause-next
returns-clause-next c = each_goes_through

pub returns-clause-again : goal.returns-clause-again
returns-clause-again c = each_again_goes_through

pub returns-clause-declared : goal.returns-clause-declared
returns-clause-declared c = each_declared_goes_through
