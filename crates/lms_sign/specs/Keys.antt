-- Keys, and the types that they name (RFC 8554 sections 4.1, 5.1, 5.2 and 5.3).
use Rattle.std.specs.Prelude.{ℕ, Bool, ◌&&◌, ◌==◌, ◌++◌, length, nat_eq}
use Rattle.std.specs.Int.{w32}
use Rattle.std.specs.List.{starts_with}
use Rattle.layout.specs.Format.{be}
use Rattle.layout.specs.Types.{Bytes, Digest, Key}
use Rattle.lms_sign.specs.Hashing.{part}
use Rattle.lms_sign.specs.Secret.{Secret}
use Rattle.lms_sign.specs.Tree.{node}

-- LMS_SHA256_M32_H10
abbrev pub lms_type : Bytes
lms_type = be w32 6

-- LMOTS_SHA256_N32_W4
abbrev pub ots_type : Bytes
ots_type = be w32 3

-- whether bytes are a public key of these two types
unfoldable pub is_key : Bytes → Bool
is_key key = (length key == 56) && starts_with nat_eq key (lms_type ++ ots_type)

-- I
abbrev pub id_of : Key → Bytes
id_of key = part 8 16 key

-- T[1]
abbrev pub root_of : Key → Digest
root_of key = part 24 32 key

-- the public key that goes with a private one
unfoldable pub public_key_of : Secret → Key
public_key_of secret = lms_type ++ ots_type ++ secret.id ++ node secret 10 1

-- a leaf of a public key
pub record KeyLeaf : Type 0 where
  pub key : Key
  pub number : ℕ
