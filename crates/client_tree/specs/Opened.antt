-- A principal's part of the tree of a view, opened: it stands on the handle that the structures have, and the
-- operations that come after that handle are applied to it.
use Rattle.std.specs.Prelude.{◌≡◌, ◌⊎◌, ◌==◌, ◌&&◌, Bool, true, false, List, [], ◌∷◌, ◌++◌, Option, Some, filter}
use Rattle.std.specs.List.{list_any}
use Rattle.std.specs.Option.{option_map}
use Rattle.layout.specs.Types.{Digest, Handle, INumber, Principal}
use Rattle.itable.specs.declared.inode.Kind.{Kind}
use Rattle.principals.specs.Table.{Table}
use Rattle.update_cert.specs.World.{is_table}
use Rattle.update_cert.specs.Reading.{Reading}
use Rattle.tree_parts.specs.Blocks.{Blocks, ForEachReading}
use Rattle.tree_parts.specs.Part.{Part, Slot, Laid, IsPartOf, handle, slot_at, stands_at}
use Rattle.tree_parts.specs.Slots.{slot_after}
use Rattle.tree_parts.specs.Spot.{lacks}
use Rattle.tree_parts.specs.Asked.{IsAskedFor, IsBlock, IsChunkFor, IsInode, IsReadFrom, IsRoot, covers}
use Rattle.tree_parts.specs.declared.scope.Scope.{Scope}
use Rattle.tree_parts.specs.declared.scope.Scope.TheVariants as scopes
use Rattle.tree_parts.specs.declared.spot.Spot.{Spot}
use Rattle.pending_list.specs.Reply.{PendingItem}
use Rattle.client_tree.specs.View.{View, actor_of, comes_after, handle_of, tree}

-- a slot of a principal at an i-number, after these operations, in turn
unfoldable pub slot_after_items : Reading → Table → Principal → INumber → List PendingItem → Option Slot → Option Slot
slot_after_items reads t p i [] s = s
slot_after_items reads t p i (x ∷ xs) s =
    slot_after_items reads t p i xs (slot_after reads (actor_of t x) p i x.cert.changes s)

-- What these operations, in turn, make of the principal's part that this handle names, within a scope: each slot of it
-- is what they make of the digest that the handle's i-table has there, whatever stands for the digests of which no
-- block tells.
pub record IsPartAfter (blocks : Blocks) (scope : Scope) (t : Table) (items : List PendingItem) (p : Principal)
    (h : Handle) (part : Part) : Type 0 where
  pub principal : part.table.principal ≡ p
  pub stands_on : handle part ≡ h
  pub slots : ForEachReading blocks (λ reads. (i : INumber) → covers scope i ≡ true
      → slot_at reads part i ≡ slot_after_items reads t p i items (option_map Laid (reads.inode p h i)))

-- the operations that are applied to a principal's part: of others each that comes after its handle, and the own one,
-- which is the last
abbrev pub items_on : View → Principal → List PendingItem
items_on x p = filter (comes_after x p) x.others ++ x.own ∷ []

-- a change of the operation is made in the principal's part, within a scope
abbrev pub has_change : Scope → Principal → PendingItem → Bool
has_change scope p i = list_any (λ c. covers scope c.i_number && (c.principal == p)) i.cert.changes

-- the operation of another has such a change, and is applied to the principal's part
abbrev pub changes_part : View → Scope → Principal → PendingItem → Bool
changes_part x scope p i = has_change scope p i && comes_after x p i

-- one of the operations on the principal's part has such a change
abbrev pub is_touched : View → Scope → Principal → Bool
is_touched x scope p = list_any (has_change scope p) (items_on x p)

-- ---- what is asked for

-- The digest is asked for by a change, within the scope, of one of the operations, at its turn: of what those before it
-- made of the part.
pub record IsAskedByItem (blocks : Blocks) (x : View) (scope : Scope) (p : Principal) (digest : Digest) (s : Spot)
    : Type 0 where
  pub earlier : List PendingItem
  pub item : PendingItem
  pub later : List PendingItem
  pub in_turn : items_on x p ≡ earlier ++ item ∷ later
  pub part : Part
  pub after : IsPartAfter blocks scope x.table earlier p (handle_of x p) part
  pub asked : IsAskedFor blocks scope (actor_of x.table item) item.cert.changes part digest s

-- nothing that these operations ask for within a scope, each at its turn, is missing
abbrev pub HasAskedByItems : Blocks → Scope → Table → List PendingItem → Principal → Handle → Type 0
HasAskedByItems blocks scope t items p h =
    (earlier : List PendingItem) (item : PendingItem) (later : List PendingItem) (part : Part) (digest : Digest)
    (s : Spot)
    → items ≡ earlier ++ item ∷ later → IsPartAfter blocks scope t earlier p h part
    → IsAskedFor blocks scope (actor_of t item) item.cert.changes part digest s → lacks blocks digest s ≡ false

-- to open a part within a scope: the root of its i-table, and what the operations ask for
abbrev pub IsOpening : Blocks → View → Scope → Principal → Digest → Spot → Type 0
IsOpening blocks x scope p digest s =
    IsRoot p (handle_of x p) digest s ⊎ IsAskedByItem blocks x scope p digest s

-- nothing of that is missing
abbrev pub HasOpening : Blocks → View → Scope → Principal → Type 0
HasOpening blocks x scope p = (digest : Digest) (s : Spot) → IsOpening blocks x scope p digest s
    → lacks blocks digest s ≡ false

-- to tell what stands at an i-number: what opens the part there, and the chunk of this i-number
abbrev pub IsOpeningAt : Blocks → View → Principal → INumber → Digest → Spot → Type 0
IsOpeningAt blocks x p i digest s =
    IsOpening blocks x (scopes.At i) p digest s ⊎ IsChunkFor blocks p (handle_of x p) i digest s

-- nothing of that is missing
abbrev pub HasOpeningAt : Blocks → View → Principal → INumber → Type 0
HasOpeningAt blocks x p i = (digest : Digest) (s : Spot) → IsOpeningAt blocks x p i digest s
    → lacks blocks digest s ≡ false

-- To store a part: nothing, where no operation on it has a change of it; else what opens all of it, and of user 0's
-- part also the chunk in which the table of principals is.
abbrev pub IsNeeded : Blocks → View → Principal → Digest → Spot → Type 0
IsNeeded blocks x p digest s =
    (is_touched x scopes.All p ≡ true)
    × (IsOpening blocks x scopes.All p digest s ⊎ ((p ≡ 0) × IsChunkFor blocks p (handle_of x p) 1 digest s))

-- ---- a part, opened

-- The part of this principal: what the handle names, after these operations; so it is that of the view's tree. Nothing
-- by which it is opened is missing: its root, the chunks that are loaded, and each block that tells what the operations
-- make of it are what their places take.
pub record IsOpened (blocks : Blocks) (x : View) (p : Principal) (part : Part) : Type 0 where
  pub after : IsPartAfter blocks scopes.All x.table (items_on x p) p (handle_of x p) part
  pub stands : ForEachReading blocks (λ reads. (users : Table) → IsPartOf reads part (tree reads users x))
  pub read : IsReadFrom blocks part
  pub taken : HasOpening blocks x scopes.All p

-- The part of this principal, opened at one i-number: there it is as the operations make it, so that what stands there,
-- unless it is the table of principals, is what stands there in the view's tree. Nothing by which it is opened there is
-- missing.
pub record IsOpenedAt (blocks : Blocks) (x : View) (p : Principal) (i : INumber) (part : Part) : Type 0 where
  pub after : IsPartAfter blocks (scopes.At i) x.table (items_on x p) p (handle_of x p) part
  pub stands : ForEachReading blocks (λ reads. (users : Table) → is_table p i ≡ false
      → tree reads users x p i ≡ stands_at reads part i)
  pub read : IsReadFrom blocks part
  pub taken : HasOpeningAt blocks x p i

-- ---- a look

-- the digest is that of this i-node, which stands at an i-number of a principal, or of a block of what it is of
abbrev pub IsOfInode : Blocks → Principal → INumber → Digest → Digest → Spot → Type 0
IsOfInode blocks p i inode digest s = IsInode p i inode digest s ⊎ ((kind : Kind) × IsBlock blocks kind inode digest s)

-- and that i-node is the one that the opened part has there
abbrev pub IsThere : Blocks → Part → INumber → Digest → Spot → Type 0
IsThere blocks part i digest s =
    (inode : Digest) × ForEachReading blocks (λ reads. slot_at reads part i ≡ Some (Laid inode))
    × IsOfInode blocks part.table.principal i inode digest s

-- a block by which the principal's part is opened at the i-number, or, once it is, one of what stands there; none where
-- the table of principals stands, which was read before
abbrev pub IsLooked : Blocks → View → Principal → INumber → Digest → Spot → Type 0
IsLooked blocks x p i digest s =
    (is_table p i ≡ false)
    × (IsOpeningAt blocks x p i digest s
    ⊎ ((part : Part) × IsOpenedAt blocks x p i part × IsThere blocks part i digest s))

-- nothing of what stands there is missing
pub record HasLooked (blocks : Blocks) (x : View) (p : Principal) (i : INumber) : Type 0 where
  pub part : Part
  pub opened : IsOpenedAt blocks x p i part
  pub taken : (digest : Digest) (s : Spot) → IsThere blocks part i digest s → lacks blocks digest s ≡ false
