use Rattle.std.proofs.Common.{◌≡◌, drop, ◌∷◌}
use Rattle.version_order.specs.Vector.{raised, raised_all, can_raise_all}
use Rattle.version_order.proofs.order.next_plan.Given as goal

abbrev pub invariant-loop-group : goal.invariant-loop-group
invariant-loop-group g l = record {
  raises : raised_all (drop l.group-index l.groups) l.vector ≡ raised_all l.groups (raised l.user l.last);
  can : can_raise_all (drop l.group-index l.groups) l.vector ≡ can_raise_all (l.user ∷ l.groups) l.last;
}
