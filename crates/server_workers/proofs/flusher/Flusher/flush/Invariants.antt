use Rattle.std.proofs.Common.{◌≡◌}
use Rattle.server_workers.proofs.flusher.Flusher.flush.Given as goal

abbrev pub invariant-loop : goal.invariant-loop
invariant-loop g l = (l.self.hand.pushes ≡ l.initial.self.hand.pushes) × (l.self.hand.sent ≡ l.initial.self.hand.sent)
