use Rattle.version_order.proofs.Raising.{none_is_vector}
use Rattle.version_order.proofs.vector.Vector.new.Goals as goal

pub invariant_of-result : goal.invariant_of-result
invariant_of-result g c = none_is_vector c.new.result.items c.new.ensures.items
