use Rattle.std.proofs.Common.{◌≢◌, ◌≤◌}
use Rattle.std.specs.Iterator.{IsFinite}
use Rattle.server_workers.proofs.workers.Workers.start.Given as goal

abbrev pub invariant-loop-k : goal.invariant-loop-k
invariant-loop-k g l =
    g.I.Iterator.can_next l.connections
    × IsFinite (g.I.Iterator.remaining l.connections)
    × (l.unserved ≤ l._k)
    × (l.self.0 ≢ 0)
