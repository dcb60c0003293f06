use Rattle.std.proofs.Common.{◌≡◌, ℕ, ◌<◌, ◌++◌, List, [], slice_index_or}
use Rattle.layout.specs.Hasher.{Holds}
use Rattle.lms_sign.specs.Hashing.{headed, joined}
use Rattle.lms_sign.specs.Chains.{value_of}
use Rattle.lms_sign.proofs.leaves.key_over.Given as goal

abbrev pub invariant-loop-chain : goal.invariant-loop-chain
invariant-loop-chain l = (seed : List ℕ) → ((chain : ℕ) → chain < 67
    → slice_index_or (slice_index_or l.all chain []) l.place [] ≡ value_of seed l.id l.leaf 15 chain)
    → Holds l.hasher (headed l.id l.leaf 0x8080 ++ joined l.chain (value_of seed l.id l.leaf 15))
