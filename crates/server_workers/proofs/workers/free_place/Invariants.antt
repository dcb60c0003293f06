use Rattle.std.proofs.Common.{◌≡◌}
use Rattle.std.specs.Prelude.{vec_len, vec_capacity}
use Rattle.server_workers.proofs.workers.free_place.Given as goal

abbrev pub invariant-loop : goal.invariant-loop
invariant-loop g l =
    (l.all.share.parts ≡ l.initial.all.share.parts)
    × (vec_len l.running ≡ vec_len l.initial.running)
    × (vec_capacity l.running ≡ vec_capacity l.initial.running)
