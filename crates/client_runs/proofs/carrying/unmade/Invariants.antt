use Rattle.std.proofs.Common.{ℕ, ◌≡◌, length, slice_index_or}
use Rattle.client_runs.specs.declared.slot.Slot.TheVariants as slot
use Rattle.client_runs.proofs.carrying.unmade.Given as goal

abbrev pub invariant-loop : goal.invariant-loop
invariant-loop g l = record {
  size : length l.slots.items ≡ l.counter;
  none : (u : ℕ) → slice_index_or l.slots.items u slot.Unmade ≡ slot.Unmade;
}
