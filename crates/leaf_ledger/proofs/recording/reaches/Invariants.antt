use Rattle.std.proofs.Common.{length, ◌≤◌, ◌<◌}
use Rattle.leaf_ledger.specs.Device.{reach}
use Rattle.leaf_ledger.proofs.recording.reaches.Given as goal

abbrev pub invariant-loop-rest : goal.invariant-loop-rest
invariant-loop-rest l = record { up : l.length ≤ reach l.size l.rest → l.length ≤ reach l.size l.extents; down : reach l.size l.rest < l.length → reach l.size l.extents < l.length }

abbrev pub decreases-loop-rest : goal.decreases-loop-rest
decreases-loop-rest l = length l.rest
