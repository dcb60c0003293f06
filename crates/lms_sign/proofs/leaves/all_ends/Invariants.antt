use Rattle.std.proofs.Common.{◌≡◌, ℕ, ◌<◌, [], length, slice_index, slice_index_or}
use Rattle.lms_sign.specs.Chains.{value_of}
use Rattle.lms_sign.proofs.leaves.all_ends.Given as goal

abbrev pub invariant-loop-chain : goal.invariant-loop-chain
invariant-loop-chain l = (length l.all ≡ 67) × ((chain i : ℕ) → chain < l.chain → i < 8
    → slice_index_or (slice_index_or l.all chain []) i [] ≡ value_of l.seed l.id (slice_index l.leaves i) 15 chain)
