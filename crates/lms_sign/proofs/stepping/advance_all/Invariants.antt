use Rattle.std.proofs.Common.{◌≡◌, ℕ, ◌-◌, ◌<◌, [], min, slice_index, slice_index_or}
use Rattle.lms_sign.specs.Chains.{chained}
use Rattle.lms_sign.proofs.stepping.advance_all.Given as goal

abbrev pub invariant-loop-number : goal.invariant-loop-number
invariant-loop-number l = (chain : ℕ) → chain < 67 → slice_index_or l.values chain []
    ≡ chained l.id l.leaf chain (slice_index l.firsts chain) (min l.number (slice_index l.ends chain) - slice_index l.firsts chain)
    (slice_index_or l.initial.values chain [])
