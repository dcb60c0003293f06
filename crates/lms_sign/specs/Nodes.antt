-- Nobody has to believe this file: an aid of private contracts.
-- The nodes of a tree, kept by their numbers (RFC 8554 section 5.3).
use Rattle.std.specs.Prelude.{◌≡◌, ℕ, ◌+◌, ◌*◌, ◌<◌, ◌≤◌, List, [], length, slice_index_or}
use Rattle.lms_sign.specs.Tree.{leaf_node, inner_node}

-- a leaf's node is made of its key, and each other one of the two below it; no node has the number 0
pub record IsTree (id : List ℕ) (leaf_keys nodes : List (List ℕ)) : Type 0 where
  pub leaf_count : length leaf_keys ≡ 1024
  pub size : length nodes ≡ 2048
  pub leaves : (leaf : ℕ) → leaf < 1024
      → slice_index_or nodes (1024 + leaf) [] ≡ leaf_node id (1024 + leaf) (slice_index_or leaf_keys leaf [])
  pub inner : (number : ℕ) → 1 ≤ number → number < 1024
      → slice_index_or nodes number [] ≡ inner_node id number (slice_index_or nodes (2 * number) []) (slice_index_or nodes (2 * number + 1) [])
