use Rattle.server_workers.proofs.Relays.{merges, totals}
use Rattle.server_workers.proofs.flusher.Flusher.finish.Goals as goal

pub absorb-requires-clause-rule : goal.absorb-requires-clause-rule
absorb-requires-clause-rule g c = merges _ _ _ _ c.self.invariant.2 c.requires.pushes

pub learn_as-requires-clause-rule : goal.learn_as-requires-clause-rule
learn_as-requires-clause-rule g c = totals _ _
