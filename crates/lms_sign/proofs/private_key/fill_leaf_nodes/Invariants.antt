use Rattle.std.proofs.Common.{◌≡◌, ℕ, ◌+◌, ◌<◌, [], length, slice_index_or}
use Rattle.lms_sign.specs.Tree.{leaf_node}
use Rattle.lms_sign.proofs.private_key.fill_leaf_nodes.Given as goal

abbrev pub invariant-loop-leaf : goal.invariant-loop-leaf
invariant-loop-leaf l = record {
  size : length l.nodes ≡ 2048;
  leaves : (leaf : ℕ) → leaf < l.leaf → slice_index_or l.nodes (1024 + leaf) [] ≡ leaf_node l.id (1024 + leaf) (slice_index_or l.keys leaf []);
}
