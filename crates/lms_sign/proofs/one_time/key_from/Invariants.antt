use Rattle.std.proofs.Common.{◌≡◌, ℕ, ◌<◌, ◌++◌, List, [], slice_index_or}
use Rattle.layout.specs.Hasher.{Holds}
use Rattle.lms_sign.specs.Hashing.{headed, joined}
use Rattle.lms_sign.proofs.one_time.key_from.Given as goal

abbrev pub invariant-loop-chain : goal.invariant-loop-chain
invariant-loop-chain l = (end : ℕ → List ℕ) → ((chain : ℕ) → chain < 67 → slice_index_or l.ends chain [] ≡ end chain)
    → Holds l.hasher (headed l.id l.leaf 0x8080 ++ joined l.chain end)
