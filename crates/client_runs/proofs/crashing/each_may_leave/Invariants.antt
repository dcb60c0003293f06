use Rattle.std.proofs.Common.{map}
use Rattle.std.specs.Vec.{vec_items}
use Rattle.client_runs.specs.Slots.{files_in}
use Rattle.client_runs.proofs.Places.{FirstMay}
use Rattle.client_runs.proofs.crashing.each_may_leave.Given as goal

abbrev pub invariant-loop-i : goal.invariant-loop-i
invariant-loop-i g l = FirstMay (files_in l.keys) (map vec_items l.left) l.i
