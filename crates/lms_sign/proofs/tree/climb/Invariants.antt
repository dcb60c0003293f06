use Rattle.std.proofs.Common.{◌≡◌, ◌+◌}
use Rattle.lms_sign.specs.Signature.{path_in}
use Rattle.lms_sign.specs.Tree.{ancestor, climbed}
use Rattle.lms_sign.proofs.tree.climb.Given as goal

abbrev pub invariant-loop-height : goal.invariant-loop-height
invariant-loop-height l = record {
  number : l.number ≡ ancestor (1024 + l.leaf) l.height;
  node : l.node ≡ climbed l.id (1024 + l.leaf) (path_in l.signature) l.initial.node l.height;
}
