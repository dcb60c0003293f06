-- Signatures, as they are made and as they are checked (RFC 8554 section 5.4).
use Rattle.std.specs.Prelude.{ℕ, ◌+◌, ◌*◌, Bool, ◌&&◌, ◌==◌, nat_lt, ◌++◌, length}
use Rattle.std.specs.Int.{w32, from_be_bytes}
use Rattle.std.specs.Str.{bytes_eq}
use Rattle.layout.specs.Format.{be}
use Rattle.layout.specs.Types.{Bytes, Digest, Key, Signature}
use Rattle.lms_sign.specs.Hashing.{part, joined}
use Rattle.lms_sign.specs.Keys.{lms_type, ots_type, is_key, id_of, root_of}
use Rattle.lms_sign.specs.OneTime.{randomizer_of, digest_of, signed_value, candidate}
use Rattle.lms_sign.specs.Secret.{Secret}
use Rattle.lms_sign.specs.Tree.{leaf_node, node, ancestor, sibling, climbed}

-- ---- making

-- the siblings from a leaf's node upwards
abbrev pub path_of : Secret → ℕ → ℕ → Digest
path_of secret leaf height = node secret height (sibling (ancestor (1024 + leaf) height))

-- the signature of a text by a leaf of a private key
unfoldable pub signature_of : Secret → ℕ → Bytes → Signature
signature_of secret leaf text =
    let randomizer = randomizer_of secret.seed secret.id leaf in
    let value = signed_value secret.seed secret.id leaf (digest_of secret.id leaf randomizer text) in
    be w32 leaf ++ ots_type ++ randomizer ++ joined 67 value ++ lms_type ++ joined 10 (path_of secret leaf)

-- ---- checking

-- the leaf that a signature names
abbrev pub leaf_of : Signature → ℕ
leaf_of signature = from_be_bytes w32 (part 0 4 signature)

-- its randomizer
abbrev pub randomizer_in : Signature → Digest
randomizer_in signature = part 8 32 signature

-- its value of a chain
abbrev pub value_in : Signature → ℕ → Digest
value_in signature chain = part (40 + 32 * chain) 32 signature

-- the node of its path that lies so high
abbrev pub path_in : Signature → ℕ → Digest
path_in signature height = part (2188 + 32 * height) 32 signature

-- whether bytes have a signature's form
unfoldable pub is_signature : Bytes → Bool
is_signature signature =
    (length signature == 2508)
    && bytes_eq (part 4 4 signature) ots_type
    && bytes_eq (part 2184 4 signature) lms_type
    && nat_lt (leaf_of signature) 1024

-- Tc: the root that a signature of a text leads to
unfoldable pub root_from : Bytes → Bytes → Signature → Digest
root_from id text signature =
    let leaf = leaf_of signature in
    let digest = digest_of id leaf (randomizer_in signature) text in
    let key = candidate id leaf digest (value_in signature) in
    climbed id (1024 + leaf) (path_in signature) (leaf_node id (1024 + leaf) key) 10

-- whether a signature of a text is valid under a public key
unfoldable pub valid : Key → Bytes → Bytes → Bool
valid key text signature =
    is_key key
    && is_signature signature
    && bytes_eq (root_from (id_of key) text signature) (root_of key)
