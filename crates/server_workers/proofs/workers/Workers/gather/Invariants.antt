use Rattle.std.proofs.Common.{◌≡◌, ◌+◌}
use Rattle.std.specs.Vec.Iter.{into_iter_len}
use Rattle.server_workers.proofs.workers.Workers.gather.Given as goal

abbrev pub invariant-loop-handle : goal.invariant-loop-handle
invariant-loop-handle g l = l.all.share.parts + into_iter_len l.handle-iterator ≡ g.L.Ledger.parts
