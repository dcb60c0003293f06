use Rattle.std.proofs.Common.{◌≡◌, ℕ, ◌<◌, [], length, slice_index_or}
use Rattle.sha2.specs.Sha256.{digest_bytes}
use Rattle.sha256_lanes.specs.Lanes.{lane}
use Rattle.sha256_lanes.proofs.hashing.digests_of.Given as goal

abbrev pub invariant-lanes : goal.invariant-lanes
invariant-lanes l = (length l.digests ≡ 8)
    × ((i : ℕ) → i < l.number → slice_index_or l.digests i [] ≡ digest_bytes (lane i l.state) 8)
