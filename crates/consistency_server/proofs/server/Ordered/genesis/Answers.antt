-- Before the first event nothing is kept but the table of the beginning.
use Rattle.consistency_server.proofs.Serving.{kept_genesis, none_so_far}
use Rattle.consistency_server.proofs.server.Ordered.genesis.Goals as goal

pub invariant_of-result : goal.invariant_of-result
invariant_of-result g c =
    kept_genesis c.args.pinned _ c.new.result (none_so_far _ c.new-2.result.items c.new-2.ensures.items) c.new.ensures
