use Rattle.std.proofs.Common.{length}
use Rattle.leaf_ledger.specs.Device.{IsOutside}
use Rattle.leaf_ledger.proofs.recording.is_outside.Given as goal

abbrev pub invariant-loop-rest : goal.invariant-loop-rest
invariant-loop-rest l = record { up : IsOutside l.rest l.i → IsOutside l.extents l.i; down : IsOutside l.extents l.i → IsOutside l.rest l.i }

abbrev pub decreases-loop-rest : goal.decreases-loop-rest
decreases-loop-rest l = length l.rest
