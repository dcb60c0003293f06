-- The one-time key of a leaf: LM-OTS (RFC 8554 sections 4.3 to 4.6).
use Rattle.std.specs.Prelude.{ℕ, ◌++◌}
use Rattle.layout.specs.Types.{Bytes, Digest}
use Rattle.lms_sign.specs.Hashing.{hash_of, joined}
use Rattle.lms_sign.specs.Chains.{drawn, value_of, end_from}
use Rattle.lms_sign.specs.Digits.{digit}

-- K, from the ends of the 67 chains; 0x8080 is D_PBLC
unfoldable pub key_from : Bytes → ℕ → (ℕ → Digest) → Digest
key_from id leaf end = hash_of id leaf 0x8080 (joined 67 end)

-- K of a leaf of the key that is made of this seed and identifier
unfoldable pub key_of : Bytes → Bytes → ℕ → Digest
key_of seed id leaf = key_from id leaf (value_of seed id leaf 15)

-- C, which is drawn from the seed as of a chain that no leaf has
unfoldable pub randomizer_of : Bytes → Bytes → ℕ → Digest
randomizer_of seed id leaf = drawn seed id leaf 65533

-- Q; 0x8181 is D_MESG
unfoldable pub digest_of : Bytes → ℕ → Digest → Bytes → Digest
digest_of id leaf randomizer text = hash_of id leaf 0x8181 (randomizer ++ text)

-- the signature's value of a chain
unfoldable pub signed_value : Bytes → Bytes → ℕ → Digest → ℕ → Digest
signed_value seed id leaf digest chain = value_of seed id leaf (digit digest chain) chain

-- Kc: the key that these values of the chains lead to
unfoldable pub candidate : Bytes → ℕ → Digest → (ℕ → Digest) → Digest
candidate id leaf digest value = key_from id leaf (λ chain. end_from id leaf chain (digit digest chain) (value chain))
