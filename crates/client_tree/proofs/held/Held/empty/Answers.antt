use Rattle.client_tree.proofs.HeldLaws.{none_held}
use Rattle.client_tree.proofs.held.Held.empty.Goals as goal

pub invariant_of-result : goal.invariant_of-result
invariant_of-result g c = none_held c.new.result.items c.new.ensures.items
