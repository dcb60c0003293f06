use Rattle.std.proofs.Common.{◌≡◌, drop}
use Rattle.version_order.specs.Vector.{is_below}
use Rattle.version_order.proofs.Raising.{Listed}
use Rattle.version_order.proofs.vector.none_greater.Given as goal

abbrev pub invariant-loop-other : goal.invariant-loop-other
invariant-loop-other l = record {
  tells : is_below l.left (drop l.other-index l.second) ≡ is_below l.first l.second;
  own : Listed l.left;
  others : Listed (drop l.other-index l.second);
}
