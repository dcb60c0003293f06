-- What is asked of a view, what is asked for to tell it, and what is told: what stands at an i-number, of what kind and
-- size it is, and at which i-number of a range nothing stands.
use Rattle.std.specs.Prelude.{◌≡◌, ◌≤◌, ◌<◌, ◌↔◌, ◌⊎◌, false, [], length, Option, Some, None, IsSome, if◌then◌else◌}
use Rattle.std.specs.Option.{option_map, option_map_or}
use Rattle.layout.specs.Types.{Digest, INumber, Principal}
use Rattle.itable.specs.Inode.{Inode}
use Rattle.principals.specs.Table.{Table}
use Rattle.update_cert.specs.World.{Content, File, Directory, is_table}
use Rattle.tree_parts.specs.Blocks.{Blocks, ForEachReading, inode_at}
use Rattle.tree_parts.specs.Part.{Part, Slot, Laid, Changed, slot_at}
use Rattle.tree_parts.specs.Slots.{directory_inode}
use Rattle.tree_parts.specs.Spot.{is_of_file, lacks}
use Rattle.tree_parts.specs.Asked.{IsInode, IsRoot}
use Rattle.tree_parts.specs.declared.spot.Spot.{Spot}
use Rattle.client_tree.specs.View.{View, handle_of, shown}
use Rattle.client_tree.specs.Opened.{HasLooked, HasOpeningAt, IsLooked, IsOpenedAt, IsOpeningAt}
use Rattle.client_tree.specs.Seen.{content_seen}
use Rattle.client_tree.specs.declared.contents.SeenKind.{SeenKind}
use Rattle.client_tree.specs.declared.contents.SeenKind.TheVariants as seen
use Rattle.client_tree.specs.declared.questions.Question.{Question}
use Rattle.client_tree.specs.declared.questions.Question.TheVariants as question
use Rattle.client_tree.specs.declared.questions.Answer.{Answer}
use Rattle.client_tree.specs.declared.questions.Answer.TheVariants as answer

-- ---- of what kind and size

-- A file has so many bytes; a directory is empty exactly where its size is 6.
abbrev pub IsKindOf : SeenKind → Option Content → Type 0
IsKindOf seen.Nothing content = content ≡ None
IsKindOf (seen.File size) (Some (File bytes)) = length bytes ≡ size
IsKindOf (seen.Directory size) (Some (Directory entries)) = (entries ≡ []) ↔ (size ≡ 6)
IsKindOf kind other = ⊥

-- what an i-node tells
abbrev pub kind_in : Inode → SeenKind
kind_in n = if is_of_file n.kind then seen.File n.size else seen.Directory n.size

-- what is told of a slot: by the i-node that lies there, and of a directory that changed by the one that it is to have
abbrev pub slot_kind : Blocks → Option Slot → Option SeenKind
slot_kind blocks None = Some seen.Nothing
slot_kind blocks (Some (Laid digest)) = option_map kind_in (inode_at blocks digest)
slot_kind blocks (Some (Changed digest entries)) = Some (kind_in (directory_inode entries))

-- the digest is that of the i-node that the opened part has there
abbrev pub IsInodeThere : Blocks → Part → INumber → Digest → Spot → Type 0
IsInodeThere blocks part i digest s =
    (inode : Digest) × ForEachReading blocks (λ reads. slot_at reads part i ≡ Some (Laid inode))
    × IsInode part.table.principal i inode digest s

-- A block by which the principal's part is opened at the i-number, or, once it is, the i-node that stands there, and no
-- block of what that is of; none where the table of principals stands, which was read before.
abbrev pub IsAskedForKind : Blocks → View → Principal → INumber → Digest → Spot → Type 0
IsAskedForKind blocks x p i digest s =
    (is_table p i ≡ false)
    × (IsOpeningAt blocks x p i digest s
    ⊎ ((part : Part) × IsOpenedAt blocks x p i part × IsInodeThere blocks part i digest s))

-- nothing of that is missing, and it tells this
pub record HasKind (blocks : Blocks) (x : View) (p : Principal) (i : INumber) (kind : SeenKind) : Type 0 where
  pub part : Part
  pub opened : IsOpenedAt blocks x p i part
  pub taken : (digest : Digest) (s : Spot) → IsInodeThere blocks part i digest s → lacks blocks digest s ≡ false
  pub tells : ForEachReading blocks (λ reads. slot_kind blocks (slot_at reads part i) ≡ Some kind)

-- ---- at which i-number nothing stands

-- the least i-number of the range at which nothing stands, if there is one
abbrev pub IsLeastFree : (INumber → Option Content) → INumber → INumber → Option INumber → Type 0
IsLeastFree stands first last (Some i) =
    (first ≤ i) × (i ≤ last) × (stands i ≡ None) × ((j : INumber) → first ≤ j → j < i → IsSome (stands j))
IsLeastFree stands first last None = (j : INumber) → first ≤ j → j ≤ last → IsSome (stands j)

-- something stands at each i-number from the first on that is below this one, whatever stands for the digests of which
-- no block tells
abbrev pub AreMapped : Blocks → View → Principal → INumber → INumber → Type 0
AreMapped blocks x p first i = ForEachReading blocks (λ reads. (users : Table) (j : INumber) → first ≤ j → j < i
    → IsSome (shown reads users x p j))

-- The root of the i-table, or what opens the part at an i-number of the range, once it is known that something stands
-- at each one before it; no i-node beyond those of which changes there ask. None where the range is the place of the
-- table of principals alone, which was read before.
abbrev pub IsAskedForFree : Blocks → View → Principal → INumber → INumber → Digest → Spot → Type 0
IsAskedForFree blocks x p first last digest s =
    (is_table p last ≡ false)
    × (IsRoot p (handle_of x p) digest s
    ⊎ ((i : INumber) × (first ≤ i) × (i ≤ last) × (is_table p i ≡ false) × AreMapped blocks x p first i
    × IsOpeningAt blocks x p i digest s))

-- the i-number is one of the range, and isn't beyond the one that was found
abbrev pub IsSearched : INumber → INumber → Option INumber → INumber → Type 0
IsSearched first last found i = (first ≤ i) × (i ≤ option_map_or (λ n. n) found last)

-- nothing by which the part is opened at these is missing
abbrev pub HasSearched : Blocks → View → Principal → INumber → INumber → Option INumber → Type 0
HasSearched blocks x p first last found =
    (i : INumber) → IsSearched first last found i → is_table p i ≡ false → HasOpeningAt blocks x p i

-- ---- each question

-- what is asked for
abbrev pub IsAskedBy : Blocks → View → Question → Digest → Spot → Type 0
IsAskedBy blocks x (question.At p i) digest s = IsLooked blocks x p i digest s
IsAskedBy blocks x (question.Kind p i) digest s = IsAskedForKind blocks x p i digest s
IsAskedBy blocks x (question.Free p first last) digest s = IsAskedForFree blocks x p first last digest s

-- Nothing of what stands there is missing, and this is what stands there in the tree of the view, whatever stands for
-- the digests of which no block tells. The table of principals was read before.
abbrev pub IsSeenAt : Blocks → View → Principal → INumber → Option Content → Type 0
IsSeenAt blocks x p i content =
    (is_table p i ≡ false → HasLooked blocks x p i)
    × ForEachReading blocks (λ reads. (users : Table) → content ≡ shown reads users x p i)

-- the same of its kind and size
abbrev pub IsKindAt : Blocks → View → Principal → INumber → SeenKind → Type 0
IsKindAt blocks x p i kind =
    (is_table p i ≡ false → HasKind blocks x p i kind)
    × ForEachReading blocks (λ reads. (users : Table) → IsKindOf kind (shown reads users x p i))

-- and of the least i-number at which nothing stands
abbrev pub IsFreeIn : Blocks → View → Principal → INumber → INumber → Option INumber → Type 0
IsFreeIn blocks x p first last found =
    (is_table p last ≡ false → HasSearched blocks x p first last found)
    × ForEachReading blocks (λ reads. (users : Table) → IsLeastFree (shown reads users x p) first last found)

-- a question's answer
abbrev pub IsAnsweredBy : {A : Type 0} → Blocks → View → Question → Answer A → Type 0
IsAnsweredBy blocks x (question.At p i) (answer.Sees s) = IsSeenAt blocks x p i (content_seen s)
IsAnsweredBy blocks x (question.Kind p i) (answer.Kind kind) = IsKindAt blocks x p i kind
IsAnsweredBy blocks x (question.Free p first last) (answer.Free found) = IsFreeIn blocks x p first last found
IsAnsweredBy blocks x q other = ⊥
