use Rattle.std.proofs.Common.{map}
use Rattle.std.specs.Vec.{vec_items}
use Rattle.client_steps.specs.Steps.{Open, ledgers_of}
use Rattle.client_runs.proofs.Places.{FirstMay}
use Rattle.client_runs.proofs.crashing.each_open_may_leave.Given as goal

abbrev pub invariant-loop-i : goal.invariant-loop-i
invariant-loop-i g l = FirstMay (ledgers_of (Open l.client)) (map vec_items l.left) l.i
