-- SHA-256 (FIPS 180-4 section 6.2). Above this crate only proofs on hashes made side by side unfold it.
use Rattle.layout.specs.Types.{Bytes}
use Rattle.sha2.specs.Sha256.{sha256}

unfoldable pub hash : Bytes → Bytes
hash bytes = sha256 bytes
