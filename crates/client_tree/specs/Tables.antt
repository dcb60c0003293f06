-- The whole i-table that a handle names, and the blocks that are asked for to read it.
-- The bytes stand in docs/FORMATS.md.
use Rattle.std.specs.Prelude.{◌≡◌, false, Some, IsSomeAnd}
use Rattle.std.specs.Option.{option_map}
use Rattle.itable.specs.Root.{chunk_at}
use Rattle.itable.specs.ITable.{ITable, IsTable, IsWhole, digest_at, handle_of}
use Rattle.layout.specs.Types.{Digest, Handle, INumber, Principal}
use Rattle.tree_parts.specs.Blocks.{Blocks, inode_told, root_at}
use Rattle.tree_parts.specs.Spot.{lacks}
use Rattle.tree_parts.specs.declared.spot.Spot.{Spot}
use Rattle.tree_parts.specs.declared.spot.Spot.TheVariants as spot

-- The digest is the one that the spot asks for, of the table with this handle: the handle itself, or, once the root is
-- held, the digest that it has of a chunk.
abbrev pub IsOfTable : Blocks → Principal → Handle → Digest → Spot → Type 0
IsOfTable blocks p handle digest (spot.Root q) = (q ≡ p) × (digest ≡ handle)
IsOfTable blocks p handle digest (spot.Chunk q n) =
    (q ≡ p) × (lacks blocks handle (spot.Root p) ≡ false)
    × IsSomeAnd (root_at blocks handle) (λ r. option_map (λ c. c.digest) (chunk_at r n) ≡ Some digest)
IsOfTable blocks p handle digest other = ⊥

-- The table is the whole one of this handle: the blocks tell each digest of it, and nothing of it is missing: its root
-- and each chunk that the root lists are what their spots take.
pub record IsRead (blocks : Blocks) (p : Principal) (handle : Handle) (t : ITable) : Type 0 where
  pub is_table : IsTable t
  pub whole : IsWhole t
  pub principal : t.principal ≡ p
  pub named : handle_of t ≡ handle
  pub told : (i : INumber) → inode_told blocks p handle i ≡ Some (digest_at t i)
  pub taken : (digest : Digest) (s : Spot) → IsOfTable blocks p handle digest s → lacks blocks digest s ≡ false
