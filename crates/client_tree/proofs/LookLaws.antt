-- What is read of an i-node is what its places take.
use Rattle.std.proofs.Common.{◌≡◌, ℕ, true, false, List, Option, Some, None, Result, Ok, Err, sym, ap, subst, ◌∙◌, inl, inr}
use Rattle.std.specs.Prelude.{IfErr, IsSome, IsSomeAnd, OnOk, slice_get, take}
use Rattle.std.specs.Option.{option_map}
use Rattle.layout.specs.Types.{Digest, INumber, Principal}
use Rattle.itable.specs.Inode.{Inode}
use Rattle.itable.specs.declared.inode.Kind.{Kind}
use Rattle.itable.specs.declared.inode.Kind.TheVariants as kinds
use Rattle.tree_parts.specs.Blocks.{Blocks, inode_at, joined, Agrees}
use Rattle.tree_parts.specs.Asked.{HasBlocks, IsBlock, Lacks}
use Rattle.tree_parts.specs.declared.error.ApplyError.{ApplyError}
use Rattle.directory.specs.Directory.{Entry}
use Rattle.tree_parts.specs.Spot.{lacks}
use Rattle.tree_parts.specs.declared.spot.Spot.{Spot}
use Rattle.tree_parts.specs.declared.spot.Spot.TheVariants as spot
use Rattle.itable.specs.ITable.{loaded}
use Rattle.principals.specs.Table.{Table}
use Rattle.update_cert.specs.World.{is_table}
use Rattle.update_cert.specs.Reading.{Reading}
use Rattle.tree_parts.specs.Part.{Changed, Laid, Part, Slot, content_of, slot_here}
use Rattle.tree_parts.proofs.LoadLaws.{slot_loaded}
use Rattle.tree_parts.proofs.SomeReading.{some_reading}
use Rattle.client_tree.specs.View.{View, shown}
use Rattle.client_tree.specs.Opened.{HasLooked, IsLooked, IsOfInode, IsOpenedAt, IsOpeningAt, IsThere}
use Rattle.client_tree.proofs.OpenedLaws.{wider}

-- a block of an i-node is one of its kind's
of_kind : (blocks : Blocks) (inode : Digest) (n : Inode) (kind : Kind) (digest : Digest) (s : Spot) → inode_at blocks inode ≡ Some n → IsBlock blocks kind inode digest s → n.kind ≡ kind
of_kind blocks inode n kind digest s at (k, is, of) =
    (subst (λ (o : Option Inode). IsSomeAnd o (λ m. (m.kind ≡ kind) × (slice_get m.blocks k ≡ Some digest) × (kind ≡ kinds.Directory → IsSome (joined blocks (take k m.blocks))))) at of).0

pub all_taken : (blocks : Blocks) (p : Principal) (i : INumber) (inode : Digest) (n : Inode) → inode_at blocks inode ≡ Some n → lacks blocks inode (spot.Inode p i) ≡ false → HasBlocks blocks n.kind inode
    → (digest : Digest) (s : Spot) → IsOfInode blocks p i inode digest s → lacks blocks digest s ≡ false
all_taken blocks p i inode n held taken has digest s (inl is) =
    subst (λ (x : Spot). lacks blocks digest x ≡ false) (sym is.1) (subst (λ (d : List ℕ). lacks blocks d (spot.Inode p i) ≡ false) (sym is.0) taken)
all_taken blocks p i inode n held taken has digest s (inr (kind, is)) =
    let same : n.kind ≡ kind = of_kind blocks inode n kind digest s held is in
    has digest s (subst (λ (k : Kind). IsBlock blocks k inode digest s) (sym same) is)

-- what is read there is what the opened part has; the table of principals is no part's
pub look_stands : (blocks : Blocks) (reads : Reading) (users : Table) (x : View) (p : Principal) (i : INumber) (part : Part) (s : Option Slot) → IsOpenedAt blocks x p i part → Agrees blocks reads → is_table p i ≡ false → loaded part.table i ≡ true → slot_here part i ≡ s
    → shown reads users x p i ≡ option_map (content_of reads) s
look_stands blocks reads users x p i part s is agrees place here at =
    rw place (is.stands reads agrees users place ∙ ap (option_map (content_of reads)) (slot_loaded reads part i here ∙ at))

-- the i-node that lies there
pub lies_there : (blocks : Blocks) (part : Part) (i : INumber) (inode digest : Digest) (s : Spot) → loaded part.table i ≡ true → slot_here part i ≡ Some (Laid inode) → IsOfInode blocks part.table.principal i inode digest s → IsThere blocks part i digest s
lies_there blocks part i inode digest s here at of = (inode, λ reads agrees. slot_loaded reads part i here ∙ at, of)

-- is the one that the chunk has
there_is : (blocks : Blocks) (part : Part) (i : INumber) (slot : Option Slot) (digest : Digest) (s : Spot) → loaded part.table i ≡ true → slot_here part i ≡ slot → IsThere blocks part i digest s → (inode : Digest) × (slot ≡ Some (Laid inode)) × IsOfInode blocks part.table.principal i inode digest s
there_is blocks part i slot digest s here at (inode, there, of) =
    let some = some_reading blocks in
    (inode, sym at ∙ sym (slot_loaded some.0 part i here) ∙ there some.0 some.1, of)

-- where nothing lies there, or a directory that changed, nothing of it is missing
pub nothing_there : (blocks : Blocks) (part : Part) (i : INumber) (slot : Option Slot) → loaded part.table i ≡ true → slot_here part i ≡ slot → ((inode : Digest) → slot ≡ Some (Laid inode) → ⊥) → (digest : Digest) (s : Spot) → IsThere blocks part i digest s → lacks blocks digest s ≡ false
nothing_there blocks part i slot here at none digest s there = let found = there_is blocks part i slot digest s here at there in absurd (none found.0 found.1)

each_there : (blocks : Blocks) (p : Principal) (i : INumber) (part : Part) (inode : Digest) → part.table.principal ≡ p → loaded part.table i ≡ true → slot_here part i ≡ Some (Laid inode)
    → ((digest : Digest) (s : Spot) → IsOfInode blocks p i inode digest s → lacks blocks digest s ≡ false) → (digest : Digest) (s : Spot) → IsThere blocks part i digest s → lacks blocks digest s ≡ false
each_there blocks p i part inode own here at taken digest s there =
    let found = there_is blocks part i (Some (Laid inode)) digest s here at there in
    let same : inode ≡ found.0 = let both : Some (Laid inode) ≡ Some (Laid found.0) = found.1 in cc in
    taken digest s (subst (λ (q : ℕ). IsOfInode blocks q i inode digest s) own (subst (λ (d : List ℕ). IsOfInode blocks part.table.principal i d digest s) (sym same) found.2))

-- where what the i-node there is of was read, nothing of it is missing
pub looked : {T E : Type 0} (blocks : Blocks) (x : View) (p : Principal) (i : INumber) (part : Part) (inode : Digest) (r : Result T E) → IsOpenedAt blocks x p i part → loaded part.table i ≡ true → slot_here part i ≡ Some (Laid inode)
    → OnOk r ((digest : Digest) (s : Spot) → IsOfInode blocks p i inode digest s → lacks blocks digest s ≡ false) → OnOk r (HasLooked blocks x p i)
looked blocks x p i part inode (Ok t) is here at taken = record {
  part = part;
  opened = is;
  taken = λ digest s there. each_there blocks p i part inode is.after.principal here at taken digest s there;
}
looked blocks x p i part inode (Err e) is here at taken = tt

pub none_laid : (inode : Digest) → None ≡ Some (Laid inode) → ⊥
none_laid inode is = absurd cc

pub changed_laid : (d : Digest) (entries : List Entry) (inode : Digest) → Some (Changed d entries) ≡ Some (Laid inode) → ⊥
changed_laid d entries inode is = absurd cc

-- so where nothing lies there
pub looked_nothing : (blocks : Blocks) (x : View) (p : Principal) (i : INumber) (part : Part) → IsOpenedAt blocks x p i part → loaded part.table i ≡ true → slot_here part i ≡ None → HasLooked blocks x p i
looked_nothing blocks x p i part is here at = record {
  part = part;
  opened = is;
  taken = λ digest s there. nothing_there blocks part i None here at none_laid digest s there;
}

-- and where a directory that changed does
pub looked_changed : (blocks : Blocks) (x : View) (p : Principal) (i : INumber) (part : Part) (d : Digest) (entries : List Entry) → IsOpenedAt blocks x p i part → loaded part.table i ≡ true → slot_here part i ≡ Some (Changed d entries) → HasLooked blocks x p i
looked_changed blocks x p i part d entries is here at = record {
  part = part;
  opened = is;
  taken = λ digest s there. nothing_there blocks part i (Some (Changed d entries)) here at (changed_laid d entries) digest s there;
}

-- what is missing of the i-node that lies there is asked for by the look
pub lacks_there : {T : Type 0} (blocks : Blocks) (x : View) (p : Principal) (i : INumber) (part : Part) (inode : Digest) (r : Result T ApplyError) → is_table p i ≡ false → IsOpenedAt blocks x p i part → loaded part.table i ≡ true → slot_here part i ≡ Some (Laid inode)
    → IfErr r (Lacks blocks (IsOfInode blocks p i inode)) → IfErr r (Lacks blocks (IsLooked blocks x p i))
lacks_there blocks x p i part inode (Ok t) place is here at lacks = tt
lacks_there blocks x p i part inode (Err e) place is here at lacks =
    wider blocks (IsOfInode blocks p i inode) (IsLooked blocks x p i) e
    (λ digest s of. (place, inr (part, is, lies_there blocks part i inode digest s here at (subst (λ (q : ℕ). IsOfInode blocks q i inode digest s) (sym is.after.principal) of))))
    lacks

-- and so is what the part is opened by
pub lacks_opening : (blocks : Blocks) (x : View) (p : Principal) (i : INumber) (e : ApplyError) → is_table p i ≡ false → Lacks blocks (IsOpeningAt blocks x p i) e → Lacks blocks (IsLooked blocks x p i) e
lacks_opening blocks x p i e place lacks = wider blocks (IsOpeningAt blocks x p i) (IsLooked blocks x p i) e (λ digest s asked. (place, inl asked)) lacks
