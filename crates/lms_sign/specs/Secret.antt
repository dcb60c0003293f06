-- What a private key is made of (RFC 8554 section 5.2).
use Rattle.std.specs.Prelude.{◌≡◌, ℕ, List, [], map, slice_index_or}
use Rattle.std.specs.List.{range_with_len}
use Rattle.layout.specs.Types.{Bytes, Digest}
use Rattle.lms_sign.specs.Hashing.{joined}
use Rattle.lms_sign.specs.OneTime.{key_of}

-- a seed, an identifier, and K of each of the 1,024 leaves, which the tree stands over
pub record Secret : Type 0 where
  pub seed : Bytes
  pub id : Bytes
  pub leaf_keys : List Digest

-- The key of this leaf is the one that the seed makes, so that the leaf can sign.
abbrev pub HasLeaf : Secret → ℕ → Type 0
HasLeaf secret leaf = slice_index_or secret.leaf_keys leaf [] ≡ key_of secret.seed secret.id leaf

-- the keys that the seed makes
unfoldable pub drawn_keys : Bytes → Bytes → List Digest
drawn_keys seed id = map (key_of seed id) (range_with_len 0 1024)

-- what is drawn from a seed and an identifier: it has each leaf
abbrev pub drawn_from : Bytes → Bytes → Secret
drawn_from seed id = record { seed = seed; id = id; leaf_keys = drawn_keys seed id }

-- the keys of the leaves, one after another
abbrev pub kept_leaves : Secret → Bytes
kept_leaves secret = joined 1024 (λ leaf. slice_index_or secret.leaf_keys leaf [])
