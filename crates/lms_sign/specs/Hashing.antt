-- What the hashes of a key have in common (RFC 8554 sections 3.1 and 7.1).
use Rattle.std.specs.Prelude.{ℕ, ◌++◌, take, drop}
use Rattle.std.specs.Int.{w16, w32}
use Rattle.std.specs.List.{flat_map, range_with_len}
use Rattle.layout.specs.Format.{be}
use Rattle.layout.specs.Hash.{hash}
use Rattle.layout.specs.Types.{Bytes, Digest}

-- what each hashed text begins with: the key's identifier, a number of 32 bits and one of 16
unfoldable pub headed : Bytes → ℕ → ℕ → Bytes
headed id number kind = id ++ be w32 number ++ be w16 kind

-- the hash of such a text
abbrev pub hash_of : Bytes → ℕ → ℕ → Bytes → Digest
hash_of id number kind rest = hash (headed id number kind ++ rest)

-- so many bytes from a place on
abbrev pub part : ℕ → ℕ → Bytes → Bytes
part at size bytes = take size (drop at bytes)

-- the pieces with the numbers below a count, one after another
unfoldable pub joined : ℕ → (ℕ → Bytes) → Bytes
joined count piece = flat_map piece (range_with_len 0 count)
