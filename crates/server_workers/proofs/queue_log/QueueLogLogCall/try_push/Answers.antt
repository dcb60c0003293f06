use Rattle.std.proofs.Common.{ap}
use Rattle.server_workers.proofs.Relays.{sends, ends}
use Rattle.server_workers.proofs.queue_log.QueueLogLogCall.try_push.Goals as goal

pub push_as-requires-clause-rule : goal.push_as-requires-clause-rule
push_as-requires-clause-rule g c = let pushes = ap (λ v. v.pushes) c.self.invariant.3 in (sends _ _ _ _ pushes, ends _ _ pushes)
