use Rattle.std.proofs.Common.{map, ◌≡◌}
use Rattle.std.specs.Vec.{vec_items}
use Rattle.client_steps.specs.Steps.{secrets_in}
use Rattle.client_runs.proofs.Places.{FirstAnew}
use Rattle.client_runs.proofs.crashing.start_each_over.Given as goal

abbrev pub invariant-loop-i : goal.invariant-loop-i
invariant-loop-i g l = record {
  anew : FirstAnew l.keys (map vec_items l.left) l.i;
  secrets : secrets_in l.keys ≡ secrets_in l.fn.keys;
}
