use Rattle.std.proofs.Common.{◌≡◌, ℕ, ◌+◌, List}
use Rattle.sha2.specs.Sha256.{hash_after}
use Rattle.sha256_lanes.proofs.long.compress_eight.Given as goal

abbrev pub invariant-lanes : goal.invariant-lanes
invariant-lanes l = (h : List ℕ) → l.initial.state ≡ hash_after h l.text l.before
    → l.state ≡ hash_after h l.text (l.before + l.number)
