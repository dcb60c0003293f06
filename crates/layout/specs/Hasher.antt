-- Nobody has to believe this file: an aid of private contracts.
-- The bytes that a hasher took so far.
use Rattle.std.specs.Prelude.{ℕ, List}
use Rattle.sha2.specs.Hashers.{Holds256}
use Rattle.layout.specs.declared.hashing.Hasher.{Hasher}

-- the hasher took these bytes, in order
unfoldable pub Holds : Hasher → List ℕ → Type 0
Holds hasher text = Holds256 hasher.inner text
