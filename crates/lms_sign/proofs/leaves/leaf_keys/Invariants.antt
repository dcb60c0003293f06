use Rattle.std.proofs.Common.{◌≡◌, ℕ, ◌+◌, ◌<◌, [], length, slice_index_or}
use Rattle.lms_sign.specs.OneTime.{key_of}
use Rattle.lms_sign.proofs.leaves.leaf_keys.Given as goal

abbrev pub invariant-loop-place : goal.invariant-loop-place
invariant-loop-place l = (length l.keys ≡ 8)
    × ((i : ℕ) → i < l.place → slice_index_or l.keys i [] ≡ key_of l.seed l.id (l.first + i))
