use Rattle.std.proofs.Common.{◌≡◌, ℕ, ◌+◌, ◌*◌, ◌<◌, ◌≤◌, [], length, slice_index_or}
use Rattle.lms_sign.specs.Tree.{inner_node}
use Rattle.lms_sign.proofs.private_key.fill_inner_nodes.Given as goal

abbrev pub invariant-loop-number : goal.invariant-loop-number
invariant-loop-number l = record {
  size : length l.nodes ≡ 2048;
  low : 1 ≤ l.number;
  leaves : (number : ℕ) → 1024 ≤ number → slice_index_or l.nodes number [] ≡ slice_index_or l.fn.nodes number [];
  inner : (number : ℕ) → l.number ≤ number → number < 1024
      → slice_index_or l.nodes number [] ≡ inner_node l.id number (slice_index_or l.nodes (2 * number) []) (slice_index_or l.nodes (2 * number + 1) []);
}
