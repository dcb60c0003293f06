use Rattle.std.proofs.Common.{◌≡◌, ℕ, ◌+◌, ◌*◌, ◌<◌, ◌≤◌, length, slice_index}
use Rattle.lms_sign.proofs.stepping.marks.Given as goal

abbrev pub invariant-loop-k : goal.invariant-loop-k
invariant-loop-k l = (length l.marks ≡ 8)
    × ((j : ℕ) → j < l.k → slice_index l.marks j ≡ slice_index l.chains j * 256 + l.number)
    × ((j : ℕ) → l.k ≤ j → slice_index l.marks j ≡ 0)
