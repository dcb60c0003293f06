use Rattle.std.proofs.Common.{◌≡◌, ℕ, ◌<◌, [], length, slice_index_or}
use Rattle.lms_sign.specs.Signature.{value_in}
use Rattle.lms_sign.proofs.one_time.values_of.Given as goal

abbrev pub invariant-loop-chain : goal.invariant-loop-chain
invariant-loop-chain l = (length l.values ≡ 67)
    × ((chain : ℕ) → chain < l.chain → slice_index_or l.values chain [] ≡ value_in l.signature chain)
