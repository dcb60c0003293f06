-- The tree over the leaves (RFC 8554 section 5.3), whose nodes go by their numbers: the root is 1, below r lie 2r and
-- 2r + 1, and 1024 + q is the node of leaf q.
use Rattle.std.specs.Prelude.{ℕ, zero, suc, ◌+◌, ◌-◌, ◌*◌, ◌/◌, ◌%◌, ◌++◌, [], if◌then◌else◌, ◌==◌, slice_index_or}
use Rattle.layout.specs.Types.{Bytes, Digest}
use Rattle.lms_sign.specs.Hashing.{hash_of}
use Rattle.lms_sign.specs.Secret.{Secret}

-- the node of a leaf with this key; 0x8282 is D_LEAF
unfoldable pub leaf_node : Bytes → ℕ → Digest → Digest
leaf_node id number key = hash_of id number 0x8282 key

-- the node above two; 0x8383 is D_INTR
unfoldable pub inner_node : Bytes → ℕ → Digest → Digest → Digest
inner_node id number left right = hash_of id number 0x8383 (left ++ right)

-- T: the node with this number, which lies this high above the leaves
unfoldable pub node : Secret → ℕ → ℕ → Digest
node secret zero number = leaf_node secret.id number (slice_index_or secret.leaf_keys (number - 1024) [])
node secret (suc height) number = inner_node secret.id number (node secret height (2 * number))
    (node secret height (2 * number + 1))

-- the number of the node so high above another
unfoldable pub ancestor : ℕ → ℕ → ℕ
ancestor number zero = number
ancestor number (suc height) = ancestor number height / 2

-- the number of the other node below the same one
unfoldable pub sibling : ℕ → ℕ
sibling number = if number % 2 == 0 then number + 1 else number - 1

-- the node above one of these numbers, from it and its sibling
unfoldable pub parent : Bytes → ℕ → Digest → Digest → Digest
parent id number other value = if number % 2 == 0 then inner_node id (number / 2) value other
    else inner_node id (number / 2) other value

-- the node so high above one, from it and the siblings on the way
unfoldable pub climbed : Bytes → ℕ → (ℕ → Digest) → Digest → ℕ → Digest
climbed id number path value zero = value
climbed id number path value (suc height) = parent id (ancestor number height) (path height)
    (climbed id number path value height)
