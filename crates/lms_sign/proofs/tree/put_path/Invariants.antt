use Rattle.std.proofs.Common.{◌≡◌, ◌+◌, ◌*◌, ◌<◌, ◌++◌, [], get_or, take}
use Rattle.lms_sign.specs.Hashing.{joined}
use Rattle.lms_sign.specs.Tree.{ancestor, sibling}
use Rattle.lms_sign.proofs.tree.put_path.Given as goal

abbrev pub invariant-loop-height : goal.invariant-loop-height
invariant-loop-height l = record {
  small : l.number < 2048;
  number : l.number ≡ ancestor (1024 + l.leaf) l.height;
  path : take (2188 + 32 * l.height) l.signature ≡ take 2188 l.fn.signature ++ joined l.height (λ height. get_or l.nodes (sibling (ancestor (1024 + l.leaf) height)) []);
}
