-- A reply has at most 64 rows in each list.
use Rattle.std.proofs.Common.{◌≤◌}
use Rattle.std.specs.Prelude.{length}
use Rattle.std.specs.Int.{w8}
use Rattle.layout.specs.Laws.{in_range}
use Rattle.pending_list.specs.Reply.{Reply, reply}

pub few_structures : (r : Reply) → reply.Fits r → length r.structures ≤ 64
few_structures r fits = (in_range w8 0 64 (length r.structures) fits.0.0).1

pub few_pending : (r : Reply) → reply.Fits r → length r.pending ≤ 64
few_pending r fits = (in_range w8 0 64 (length r.pending) fits.1.0).1
