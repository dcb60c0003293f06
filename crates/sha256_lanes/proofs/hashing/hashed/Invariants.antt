use Rattle.std.proofs.Common.{◌≡◌, ℕ, ◌*◌, ◌<◌}
use Rattle.sha2.specs.Sha256.{hash_after, initial_hash_256}
use Rattle.sha256_lanes.specs.Lanes.{lane, part}
use Rattle.sha256_lanes.proofs.hashing.hashed.Given as goal

abbrev pub invariant-blocks-2 : goal.invariant-blocks-2
invariant-blocks-2 l = (i : ℕ) → i < 8
    → lane i l.state ≡ hash_after initial_hash_256 (part (l.stride * i) (l.count * 64) l.text) l.n
