use Rattle.std.proofs.Common.{◌≡◌, ℕ, ◌<◌, ◌≤◌, length, slice_index}
use Rattle.lms_sign.specs.Digits.{digit}
use Rattle.lms_sign.proofs.one_time.digits_of.Given as goal

abbrev pub invariant-loop-chain : goal.invariant-loop-chain
invariant-loop-chain l = (length l.digits ≡ 67)
    × ((chain : ℕ) → chain < l.chain → (slice_index l.digits chain ≡ digit l.digest chain) × (slice_index l.digits chain ≤ 15))
