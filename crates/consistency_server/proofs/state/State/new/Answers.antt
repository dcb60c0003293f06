-- Nothing is listed.
use Rattle.consistency_server.proofs.Tidy.{tidy_start}
use Rattle.consistency_server.proofs.state.State.new.Goals as goal

pub invariant_of-result : goal.invariant_of-result
invariant_of-result g c = tidy_start c.genesis.result c.new.result c.new-2.result.items c.new-3.result.items c.new-2.ensures.items c.new-3.ensures.items
