-- What is told of the kind of what stands there, and of the least i-number at which nothing stands.
use Rattle.std.proofs.Common.{◌≡◌, ◌≤◌, ◌<◌, ◌+◌, ℕ, Bool, true, false, List, Option, Some, None, refl, sym, ap, subst, ◌∙◌, inl, inr, arith}
use Rattle.std.specs.Prelude.{IsSome, is_some}
use Rattle.std.specs.Option.{option_map}
use Rattle.std.proofs.Math.Nat.{eq-or-lt_of_le}
use Rattle.layout.specs.Laws.{whole_again}
use Rattle.layout.specs.Types.{Digest, INumber, Principal}
use Rattle.itable.specs.Inode.{Inode}
use Rattle.itable.specs.ITable.{loaded}
use Rattle.directory.specs.Directory.{Entry, directory}
use Rattle.directory.specs.DirectoryLaws.{lawful_directory}
use Rattle.principals.specs.Table.{Table}
use Rattle.update_cert.specs.World.{Content, File, Directory, Principals, is_table}
use Rattle.update_cert.specs.Reading.{Reading}
use Rattle.tree_parts.specs.Blocks.{Blocks, Agrees, IsOf, inode_at}
use Rattle.tree_parts.specs.Part.{Part, Slot, Laid, Changed, content_of, slot_here}
use Rattle.tree_parts.specs.Slots.{directory_inode}
use Rattle.tree_parts.specs.Spot.{lacks}
use Rattle.tree_parts.specs.declared.spot.Spot.{Spot}
use Rattle.tree_parts.specs.declared.spot.Spot.TheVariants as spot
use Rattle.tree_parts.specs.Asked.{IsInode, IsRoot, Lacks}
use Rattle.tree_parts.specs.declared.error.ApplyError.{ApplyError}
use Rattle.tree_parts.proofs.LoadLaws.{slot_loaded}
use Rattle.tree_parts.proofs.SomeReading.{empty_at_6, some_reading}
use Rattle.client_tree.specs.View.{View, handle_of, shown}
use Rattle.client_tree.specs.Opened.{IsOpenedAt, IsOpeningAt}
use Rattle.client_tree.specs.declared.contents.SeenKind.{SeenKind}
use Rattle.client_tree.specs.declared.contents.SeenKind.TheVariants as seen
use Rattle.client_tree.specs.Questions.{AreMapped, HasKind, IsAskedForFree, IsAskedForKind, IsInodeThere, IsKindOf, kind_in, slot_kind}
use Rattle.client_tree.proofs.LookLaws.{changed_laid, look_stands, none_laid}
use Rattle.client_tree.proofs.OpenedLaws.{wider}

-- ---- what an i-node tells

of_inode : (blocks : Blocks) (n : Inode) (content : Content) → IsOf blocks n content → IsKindOf (kind_in n) (Some content)
of_inode blocks n (File bytes) is = rw is.0 is.1
of_inode blocks n (Directory entries) is = rw is.0 is.1
of_inode blocks n (Principals t) is = absurd is

-- what is told as that kind is so
pub kind_by : (kind other : SeenKind) (content : Option Content) → kind ≡ other → IsKindOf other content → IsKindOf kind content
kind_by kind other content same is = subst (λ (k : SeenKind). IsKindOf k content) (sym same) is

-- of what the i-node of this digest is of, which lies there
pub laid_kind : (blocks : Blocks) (reads : Reading) (inode : Digest) (n : Inode) (content : Option Content) → Agrees blocks reads → inode_at blocks inode ≡ Some n → content ≡ option_map (content_of reads) (Some (Laid inode)) → IsKindOf (kind_in n) content
laid_kind blocks reads inode n content agrees held is = subst (IsKindOf (kind_in n)) (sym is) (of_inode blocks n (reads.content inode) (agrees.contents inode n held))

-- of a directory that changed
pub changed_kind : (reads : Reading) (d : Digest) (entries : List Entry) (content : Option Content) → directory.Fits entries → content ≡ option_map (content_of reads) (Some (Changed d entries)) → IsKindOf (kind_in (directory_inode entries)) content
changed_kind reads d entries content fits is =
    let empty : IsKindOf (seen.Directory (directory_inode entries).size) (Some (Directory entries)) = empty_at_6 (directory.spell entries) entries (whole_again directory lawful_directory entries fits) in
    subst (IsKindOf (kind_in (directory_inode entries))) (sym is) empty

-- ---- nothing of it is missing

-- where this is at the i-number, the i-node that lies there is told by it
there_is : (blocks : Blocks) (part : Part) (i : INumber) (slot : Option Slot) (digest : Digest) (s : Spot) → loaded part.table i ≡ true → slot_here part i ≡ slot → IsInodeThere blocks part i digest s → (inode : Digest) × (slot ≡ Some (Laid inode)) × IsInode part.table.principal i inode digest s
there_is blocks part i slot digest s here at (inode, there, of) =
    let some = some_reading blocks in
    (inode, sym at ∙ sym (slot_loaded some.0 part i here) ∙ there some.0 some.1, of)

has_kind : (blocks : Blocks) (x : View) (p : Principal) (i : INumber) (part : Part) (slot : Option Slot) (kind : SeenKind) → IsOpenedAt blocks x p i part → loaded part.table i ≡ true → slot_here part i ≡ slot → slot_kind blocks slot ≡ Some kind
    → ((digest : Digest) (s : Spot) → IsInodeThere blocks part i digest s → lacks blocks digest s ≡ false) → HasKind blocks x p i kind
has_kind blocks x p i part slot kind is here at tells taken = record {
  part = part;
  opened = is;
  taken = taken;
  tells = λ reads agrees. ap (slot_kind blocks) (slot_loaded reads part i here ∙ at) ∙ tells;
}

pub has_nothing : (blocks : Blocks) (x : View) (p : Principal) (i : INumber) (part : Part) → IsOpenedAt blocks x p i part → loaded part.table i ≡ true → slot_here part i ≡ None → HasKind blocks x p i seen.Nothing
has_nothing blocks x p i part is here at =
    has_kind blocks x p i part None seen.Nothing is here at refl (λ digest s there. let found = there_is blocks part i None digest s here at there in absurd (none_laid found.0 found.1))

pub has_changed : (blocks : Blocks) (x : View) (p : Principal) (i : INumber) (part : Part) (d : Digest) (entries : List Entry) (kind : SeenKind) → IsOpenedAt blocks x p i part → loaded part.table i ≡ true → slot_here part i ≡ Some (Changed d entries)
    → kind ≡ kind_in (directory_inode entries) → HasKind blocks x p i kind
has_changed blocks x p i part d entries kind is here at told =
    has_kind blocks x p i part (Some (Changed d entries)) kind is here at (ap (λ (k : SeenKind). Some k) (sym told))
    (λ digest s there. let found = there_is blocks part i (Some (Changed d entries)) digest s here at there in absurd (changed_laid d entries found.0 found.1))

inode_taken : (blocks : Blocks) (p q : Principal) (i : INumber) (inode other digest : Digest) (s : Spot) → q ≡ p → inode ≡ other → lacks blocks inode (spot.Inode p i) ≡ false → IsInode q i other digest s → lacks blocks digest s ≡ false
inode_taken blocks p q i inode other digest s own same taken (is, at) = rw (at, is, ← same, own) taken

pub has_laid : (blocks : Blocks) (x : View) (p : Principal) (i : INumber) (part : Part) (inode : Digest) (n : Inode) (kind : SeenKind) → IsOpenedAt blocks x p i part → loaded part.table i ≡ true → slot_here part i ≡ Some (Laid inode)
    → inode_at blocks inode ≡ Some n → lacks blocks inode (spot.Inode p i) ≡ false → kind ≡ kind_in n → HasKind blocks x p i kind
has_laid blocks x p i part inode n kind is here at held taken told =
    has_kind blocks x p i part (Some (Laid inode)) kind is here at (ap (option_map kind_in) held ∙ ap (λ (k : SeenKind). Some k) (sym told))
    (λ digest s there.
    let found = there_is blocks part i (Some (Laid inode)) digest s here at there in
    let same : inode ≡ found.0 = let both : Some (Laid inode) ≡ Some (Laid found.0) = found.1 in cc in
    inode_taken blocks p part.table.principal i inode found.0 digest s is.after.principal same taken found.2)

-- ---- or what is missing is asked for

pub lacks_opening : (blocks : Blocks) (x : View) (p : Principal) (i : INumber) (e : ApplyError) → is_table p i ≡ false → Lacks blocks (IsOpeningAt blocks x p i) e → Lacks blocks (IsAskedForKind blocks x p i) e
lacks_opening blocks x p i e place lacks = wider blocks (IsOpeningAt blocks x p i) (IsAskedForKind blocks x p i) e (λ digest s asked. (place, inl asked)) lacks

pub lacks_inode : (blocks : Blocks) (x : View) (p : Principal) (i : INumber) (part : Part) (inode : Digest) (e : ApplyError) → is_table p i ≡ false → IsOpenedAt blocks x p i part → loaded part.table i ≡ true → slot_here part i ≡ Some (Laid inode)
    → Lacks blocks (IsInode p i inode) e → Lacks blocks (IsAskedForKind blocks x p i) e
lacks_inode blocks x p i part inode e place is here at lacks =
    wider blocks (IsInode p i inode) (IsAskedForKind blocks x p i) e
    (λ digest s of.
    let there : IsInodeThere blocks part i digest s = (inode, λ reads agrees. slot_loaded reads part i here ∙ at, subst (λ (q : ℕ). IsInode q i inode digest s) (sym is.after.principal) of) in
    (place, inr (part, is, there)))
    lacks

-- ---- the least i-number at which nothing stands

content_mapped : (reads : Reading) (s : Option Slot) → is_some (option_map (content_of reads) s) ≡ is_some s
content_mapped reads None = refl
content_mapped reads (Some s) = refl

pub is_free : (content : Option Content) → false ≡ is_some content → content ≡ None
is_free None is = refl
is_free (Some c) is = absurd cc

-- the table of principals stands at its place
pub table_stands : (reads : Reading) (users : Table) (x : View) (p : Principal) (i : INumber) → is_table p i ≡ true → IsSome (shown reads users x p i)
table_stands reads users x p i place = rw place refl

pub table_mapped : (reads : Reading) (users : Table) (x : View) (p : Principal) (i : INumber) → is_table p i ≡ true → true ≡ is_some (shown reads users x p i)
table_mapped reads users x p i place = rw place refl

-- something stands there exactly where the part has something
pub slot_mapped : (blocks : Blocks) (reads : Reading) (users : Table) (x : View) (p : Principal) (i : INumber) (part : Part) (stands : Bool) → IsOpenedAt blocks x p i part → Agrees blocks reads → is_table p i ≡ false → loaded part.table i ≡ true → stands ≡ is_some (slot_here part i)
    → stands ≡ is_some (shown reads users x p i)
slot_mapped blocks reads users x p i part stands is agrees place here told =
    told ∙ sym (content_mapped reads (slot_here part i)) ∙ sym (ap (λ (content : Option Content). is_some content) (look_stands blocks reads users x p i part (slot_here part i) is agrees place here refl))

-- what holds of each number below this one, and of it, holds of each below the next
pub each_next : (P : ℕ → Type 0) (first i : ℕ) → ((j : ℕ) → first ≤ j → j < i → P j) → P i → (j : ℕ) → first ≤ j → j < i + 1 → P j
each_next P first i below here j least most =
    let up_to : j ≤ i = omega (arith, most) in
    elim (eq-or-lt_of_le up_to) [
      | inl is ↦ subst P (sym is) here
      | inr less ↦ below j least less
    ]

pub mapped_next : (blocks : Blocks) (x : View) (p : Principal) (first i : INumber) → AreMapped blocks x p first i → ((reads : Reading) → Agrees blocks reads → (users : Table) → IsSome (shown reads users x p i)) → AreMapped blocks x p first (i + 1)
mapped_next blocks x p first i below here = λ reads agrees users j least most. each_next (λ (n : ℕ). IsSome (shown reads users x p n)) first i (below reads agrees users) (here reads agrees users) j least most

-- what is missing at an i-number of the range is asked for
pub lacks_there : (blocks : Blocks) (x : View) (p : Principal) (first last i : INumber) (e : ApplyError) → is_table p last ≡ false → first ≤ i → i ≤ last → is_table p i ≡ false → AreMapped blocks x p first i → Lacks blocks (IsOpeningAt blocks x p i) e → Lacks blocks (IsAskedForFree blocks x p first last) e
lacks_there blocks x p first last i e place least most other mapped lacks =
    wider blocks (IsOpeningAt blocks x p i) (IsAskedForFree blocks x p first last) e (λ digest s asked. (place, inr (i, least, most, other, mapped, asked))) lacks

-- and so is the root
pub lacks_root : (blocks : Blocks) (x : View) (p : Principal) (first last : INumber) (e : ApplyError) → is_table p last ≡ false → Lacks blocks (IsRoot p (handle_of x p)) e → Lacks blocks (IsAskedForFree blocks x p first last) e
lacks_root blocks x p first last e place lacks = wider blocks (IsRoot p (handle_of x p)) (IsAskedForFree blocks x p first last) e (λ digest s asked. (place, inl asked)) lacks
