-- A stored block beside its digest, and the passes of a store.
use Rattle.std.specs.Prelude.{◌≡◌, ◌≤◌, ℕ, List, length, refl}
use Rattle.std.specs.Coded.{Coded, code_by, coded×, coded_ℕ, coded_list}
use Rattle.boxcar.specs.Table.{Shelves, Where, Shows}
use Rattle.block_store.specs.declared.store.TheConstants.{BLOCK_LIMIT}
use Rattle.layout.specs.Hash.{hash}
use Rattle.layout.specs.Types.{Bytes, Digest}

-- bytes, and the digest under which they are stored
pub record Stored : Type 0 where
  pub digest : Digest
  pub text : Bytes

-- as two lists of numbers
abbrev pub stored_coded : Coded Stored
stored_coded = code_by (List ℕ × List ℕ) (coded× (coded_list coded_ℕ) (coded_list coded_ℕ))
    (λ b. (b.digest, b.text)) (λ p. record { digest = p.0; text = p.1 }) (λ _. refl)

-- a stored block has its digest, and at most BLOCK_LIMIT bytes
abbrev pub IsOwn : Stored → Type 0
IsOwn block = (hash block.text ≡ block.digest) × (length block.text ≤ BLOCK_LIMIT)

-- the pass is one of this store
abbrev pub IsOf : Shelves → Where Stored → Type 0
IsOf store pass = Shows store pass

-- a block of this digest is stored
abbrev pub IsStoredAs : Shelves → Digest → Type 0
IsStoredAs store digest =
    (pass : Where Stored) × IsOf store pass × (hash pass.value.text ≡ digest) × (length pass.value.text ≤ BLOCK_LIMIT)
