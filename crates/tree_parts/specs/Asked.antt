-- What is asked for: the chunk of the i-table that the i-number of a change is in, the i-node that the change meets
-- there, and the blocks of the directory that it is of, where the change has to know them.
use Rattle.std.specs.Prelude.{◌≡◌, ◌⊎◌, ◌==◌, ℕ, Bool, true, false, ◌&&◌, not, List, Option, Some, None, IsSome, IsSomeAnd, slice_get, take, if◌then◌else◌}
use Rattle.std.specs.Option.{option_map}
use Rattle.itable.specs.declared.inode.Kind.{Kind}
use Rattle.itable.specs.declared.inode.Kind.TheVariants as kind
use Rattle.update_cert.specs.Change.{Action, Make, Put, Remove, Link, Unlink, AddUser, AddMember, DropMember, SetKey, Change}
use Rattle.layout.specs.Types.{Digest, Handle, INumber, Principal, User}
use Rattle.itable.specs.Chunk.{chunk_number}
use Rattle.itable.specs.Root.{chunk_at}
use Rattle.itable.specs.ITable.{digest_at, loaded, root_of, unloaded_at}
use Rattle.itable.specs.declared.root.ListedChunk.{ListedChunk}
use Rattle.update_cert.specs.Reading.{Reading}
use Rattle.update_cert.specs.World.{Actor, is_root, is_table, may_make, permitted}
use Rattle.tree_parts.specs.Blocks.{Blocks, ForEachReading, inode_at, inode_told, joined, root_at}
use Rattle.tree_parts.specs.Spot.{lacks, spot_of}
use Rattle.tree_parts.specs.Part.{Part, Slot, Laid, handle, slot_at}
use Rattle.tree_parts.specs.Slots.{slot_after}
use Rattle.tree_parts.specs.declared.error.ApplyError.{ApplyError}
use Rattle.tree_parts.specs.declared.error.ApplyError.TheVariants as error
use Rattle.tree_parts.specs.declared.scope.Scope.{Scope}
use Rattle.tree_parts.specs.declared.scope.Scope.TheVariants as scopes
use Rattle.tree_parts.specs.declared.spot.Spot.{Spot}
use Rattle.tree_parts.specs.declared.spot.Spot.TheVariants as spot

-- what is missing is asked for so, and no text of it is held that its spot takes; want of memory says nothing
abbrev pub Lacks : Blocks → (Digest → Spot → Type 0) → ApplyError → Type 0
Lacks blocks IsAsked (error.Missing digest s) = IsAsked digest s × (lacks blocks digest s ≡ true)
Lacks blocks IsAsked error.Memory = Unit {0}

-- ---- of an i-table

-- the digest is the handle, which names the root
abbrev pub IsRoot : Principal → Handle → Digest → Spot → Type 0
IsRoot p handle digest s = (digest ≡ handle) × (s ≡ spot.Root p)

-- the digest is that of a chunk, as a root lists it
abbrev pub IsListed : Principal → ListedChunk → Digest → Spot → Type 0
IsListed p c digest s = (digest ≡ c.digest) × (s ≡ spot.Chunk p c.number)

-- The digest is the handle, or, once the root is held, that of the chunk which it lists for an i-number.
abbrev pub IsChunkFor : Blocks → Principal → Handle → INumber → Digest → Spot → Type 0
IsChunkFor blocks p handle i digest s =
    IsRoot p handle digest s
    ⊎ ((s ≡ spot.Chunk p (chunk_number i)) × (lacks blocks handle (spot.Root p) ≡ false)
    × IsSomeAnd (root_at blocks handle) (λ r. option_map (λ c. c.digest) (chunk_at r (chunk_number i)) ≡ Some digest))

-- nothing of that is missing
abbrev pub HasChunkFor : Blocks → Principal → Handle → INumber → Type 0
HasChunkFor blocks p handle i = (digest : Digest) (s : Spot) → IsChunkFor blocks p handle i digest s
    → lacks blocks digest s ≡ false

-- The part is read from these blocks: they hold the root of the handle that it stands on, and each chunk that is loaded
-- of those which the root lists, and tell what the i-table before has there.
pub record IsReadFrom (blocks : Blocks) (part : Part) : Type 0 where
  pub root : root_at blocks (handle part) ≡ Some (root_of part.before)
  pub takes_root : lacks blocks (handle part) (spot.Root part.table.principal) ≡ false
  pub chunks : (n : ℕ) (c : ListedChunk) → chunk_at (root_of part.before) n ≡ Some c → unloaded_at part.before n ≡ None
      → lacks blocks c.digest (spot.Chunk part.table.principal n) ≡ false
  pub told : (i : INumber) → loaded part.before i ≡ true
      → inode_told blocks part.table.principal (handle part) i ≡ Some (digest_at part.before i)

-- ---- of an i-node

-- the digest is that of the i-node at this i-number
abbrev pub IsInode : Principal → INumber → Digest → Digest → Spot → Type 0
IsInode p i inode digest s = (digest ≡ inode) × (s ≡ spot.Inode p i)

-- the digest is that of this block of an i-node of this kind that is held, and the blocks before it are held
abbrev pub IsBlockAfterHeld : Blocks → Kind → Digest → ℕ → Digest → Type 0
IsBlockAfterHeld blocks of inode k digest = IsSomeAnd (inode_at blocks inode)
    (λ n. (n.kind ≡ of) × (slice_get n.blocks k ≡ Some digest) × IsSome (joined blocks (take k n.blocks)))

-- The digest is that of this block of an i-node of this kind that is held. Of a directory the blocks before it are held,
-- too, since its last one is judged with them; a file's are asked for in any order.
abbrev pub IsBlockOf : Blocks → Kind → Digest → ℕ → Digest → Type 0
IsBlockOf blocks of inode k digest = IsSomeAnd (inode_at blocks inode)
    (λ n. (n.kind ≡ of) × (slice_get n.blocks k ≡ Some digest)
    × (of ≡ kind.Directory → IsSome (joined blocks (take k n.blocks))))

-- and its spot is that block's
abbrev pub IsBlock : Blocks → Kind → Digest → Digest → Spot → Type 0
IsBlock blocks kind inode digest s = (k : ℕ) × (s ≡ spot_of kind inode k) × IsBlockOf blocks kind inode k digest

-- no block of this i-node is missing
abbrev pub HasBlocks : Blocks → Kind → Digest → Type 0
HasBlocks blocks kind inode = (digest : Digest) (s : Spot) → IsBlock blocks kind inode digest s
    → lacks blocks digest s ≡ false

-- ---- of the table of principals

-- the digest is that of this block of the file that the table is, and its spot is that block's
abbrev pub IsTableBlock : Blocks → Digest → Digest → Spot → Type 0
IsTableBlock blocks inode digest s = (k : ℕ) × (s ≡ spot.Table inode k) × IsBlockAfterHeld blocks kind.File inode k digest

-- the digest is that of this i-node, which stands at user 0's i-number 1, or of a block of the table that it is of
abbrev pub IsOfPrincipals : Blocks → Digest → Digest → Spot → Type 0
IsOfPrincipals blocks inode digest s = IsInode 0 1 inode digest s ⊎ IsTableBlock blocks inode digest s

-- nothing of the table is missing
abbrev pub HasPrincipals : Blocks → Digest → Type 0
HasPrincipals blocks inode = (digest : Digest) (s : Spot) → IsOfPrincipals blocks inode digest s
    → lacks blocks digest s ≡ false

-- ---- of a change

-- Whether the change fits depends on what stands at its i-number, if on anything: not where its user may not make it
-- there, nor at the place of the root directory, which stays. Changes of the table of principals stand in no chunk.
abbrev pub needs_slot : {C : Type 0} → User → Principal → INumber → Action C → Bool
needs_slot user p i (Make new) = may_make user p i
needs_slot user p i (Put new) = true
needs_slot user p i Remove = not (is_root p i)
needs_slot user p i (Link entry) = true
needs_slot user p i (Unlink name) = true
needs_slot user p i (AddUser u key) = false
needs_slot user p i (AddMember g u) = false
needs_slot user p i (DropMember g u) = false
needs_slot user p i (SetKey u key) = false

-- so it asks for the chunk that the i-number is in
abbrev pub asks_slot : {C : Type 0} → Actor → Change C → Bool
asks_slot actor c = permitted actor c
    && (not (is_table c.principal c.i_number) && needs_slot actor.user c.principal c.i_number c.action)

-- Whether the change fits depends on what kind of thing stands at its i-number, and so on the i-node there: of a make
-- it depends on whether anything does, and at the places of the table of principals and of the root it is told by the
-- place.
abbrev pub needs_inode : {C : Type 0} → Principal → INumber → Action C → Bool
needs_inode p i (Make new) = false
needs_inode p i (Put new) = true
needs_inode p i Remove = not (is_root p i)
needs_inode p i (Link entry) = true
needs_inode p i (Unlink name) = true
needs_inode p i (AddUser u key) = false
needs_inode p i (AddMember g u) = false
needs_inode p i (DropMember g u) = false
needs_inode p i (SetKey u key) = false

-- and on its entries, where it is a directory
abbrev pub needs_entries : {C : Type 0} → Action C → Bool
needs_entries (Make new) = false
needs_entries (Put new) = false
needs_entries Remove = false
needs_entries (Link entry) = true
needs_entries (Unlink name) = true
needs_entries (AddUser u key) = false
needs_entries (AddMember g u) = false
needs_entries (DropMember g u) = false
needs_entries (SetKey u key) = false

-- the change asks for what stands at its i-number
abbrev pub asks : {C : Type 0} → Actor → Change C → Bool
asks actor c = permitted actor c
    && (not (is_table c.principal c.i_number) && needs_inode c.principal c.i_number c.action)

-- the digest is that of this i-node, which lies where the change is made, or of a block of the directory that it is of
abbrev pub IsWantedBy : Blocks → Change Digest → Digest → Digest → Spot → Type 0
IsWantedBy blocks c inode digest s = IsInode c.principal c.i_number inode digest s
    ⊎ ((needs_entries c.action ≡ true) × IsBlock blocks kind.Directory inode digest s)

-- At its turn the change lies at this i-node, whatever stands for the digests of which no block tells.
abbrev pub IsMetAt : Blocks → Actor → List (Change Digest) → Part → ℕ → Change Digest → Digest → Type 0
IsMetAt blocks actor changes part k c inode =
    (slice_get changes k ≡ Some c)
    × ForEachReading blocks (λ reads. slot_after reads actor part.table.principal c.i_number (take k changes)
    (slot_at reads part c.i_number) ≡ Some (Laid inode))

-- which changes are made: all of them, or those at one i-number
abbrev pub covers : Scope → INumber → Bool
covers scopes.All i = true
covers (scopes.At n) i = n == i

-- a principal's slot at an i-number, after those of these changes that are made, in turn
abbrev pub slot_within : Scope → Reading → Actor → Principal → INumber → List (Change Digest) → Option Slot → Option Slot
slot_within scope reads actor p i changes s = if covers scope i then slot_after reads actor p i changes s else s

-- the change is of this principal's part, and of the scope: it is made
abbrev pub IsMadeIn : Scope → Principal → Change Digest → Type 0
IsMadeIn scope p c = (c.principal ≡ p) × (covers scope c.i_number ≡ true)

-- one of these changes, which is made, asks for the chunk of its i-number
abbrev pub IsChunkAskedFor : Blocks → Scope → Actor → List (Change Digest) → Part → Digest → Spot → Type 0
IsChunkAskedFor blocks scope actor changes part digest s =
    (k : ℕ) × (c : Change Digest) × (slice_get changes k ≡ Some c) × IsMadeIn scope part.table.principal c
    × (asks_slot actor c ≡ true) × IsChunkFor blocks part.table.principal (handle part) c.i_number digest s

-- or, at its turn, for what it meets there
abbrev pub IsInodeAskedFor : Blocks → Scope → Actor → List (Change Digest) → Part → Digest → Spot → Type 0
IsInodeAskedFor blocks scope actor changes part digest s =
    (k : ℕ) × (c : Change Digest) × (inode : Digest) × IsMadeIn scope part.table.principal c
    × IsMetAt blocks actor changes part k c inode × (asks actor c ≡ true) × IsWantedBy blocks c inode digest s

-- The digest is asked for by one of those of these changes that are made.
abbrev pub IsAskedFor : Blocks → Scope → Actor → List (Change Digest) → Part → Digest → Spot → Type 0
IsAskedFor blocks scope actor changes part digest s =
    IsChunkAskedFor blocks scope actor changes part digest s ⊎ IsInodeAskedFor blocks scope actor changes part digest s

-- nothing that they ask for is missing
abbrev pub HasAskedFor : Blocks → Scope → Actor → List (Change Digest) → Part → Type 0
HasAskedFor blocks scope actor changes part =
    (digest : Digest) (s : Spot) → IsAskedFor blocks scope actor changes part digest s → lacks blocks digest s ≡ false
