use Rattle.kept_server.proofs.Syncs.{untouched}
use Rattle.kept_server.proofs.blocks.Blocks.fetch.Goals as goal

pub invariant_of-self : goal.invariant_of-self
invariant_of-self g c = untouched c.self.inside.is_synced g.T.Storage.tells c.self.inside.file c.fetch.new.self c.fetch.ensures.same c.self.invariant
