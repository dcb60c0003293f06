use Rattle.std.proofs.Common.{◌≡◌, ℕ, ◌<◌, [], length, slice_index, slice_index_or}
use Rattle.lms_sign.proofs.stepping.taken.Given as goal

abbrev pub invariant-loop-k : goal.invariant-loop-k
invariant-loop-k l = (length l.taken ≡ 8)
    × ((j : ℕ) → j < l.k → slice_index_or l.taken j [] ≡ slice_index_or l.values (slice_index l.chains j) [])
