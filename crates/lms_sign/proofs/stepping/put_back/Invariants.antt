use Rattle.std.proofs.Common.{◌≡◌, ◌≢◌, ℕ, ◌<◌, [], length, slice_index, slice_index_or}
use Rattle.lms_sign.proofs.stepping.put_back.Given as goal

abbrev pub invariant-loop-k : goal.invariant-loop-k
invariant-loop-k l = (length l.values ≡ 67)
    × ((j : ℕ) → j < l.k → slice_index_or l.values (slice_index l.chains j) [] ≡ slice_index_or l.stepped j [])
    × ((chain : ℕ) → ((j : ℕ) → j < l.k → slice_index l.chains j ≢ chain) → slice_index_or l.values chain [] ≡ slice_index_or l.initial.values chain [])
