use Rattle.std.proofs.Common.{◌≡◌, ℕ, ◌<◌, [], slice_index, slice_index_or}
use Rattle.lms_sign.specs.Chains.{value_of}
use Rattle.lms_sign.proofs.leaves.ends.Given as goal

abbrev pub invariant-loop-number : goal.invariant-loop-number
invariant-loop-number l = (i : ℕ) → i < 8
    → slice_index_or l.value i [] ≡ value_of l.seed l.id (slice_index l.leaves i) l.number l.chain
