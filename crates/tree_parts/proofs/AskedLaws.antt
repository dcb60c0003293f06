-- What is asked for, from the part at a change's turn to the first part.
use Rattle.std.proofs.Common.{◌≡◌, ℕ, ◌+◌, ◌<◌, ◌≤◌, Bool, true, false, List, length, take, Option, Some, None, Result, Ok, Err, refl, subst, sym, ap, ◌∙◌, inl, inr, arith}
use Rattle.std.specs.Prelude.{◌⊎◌, ◌==◌, ◌&&◌, not, IfErr, IsErr, IsErrAnd, OnOk, slice_get, slice_index_or}
use Rattle.std.specs.Option.{option_map}
use Rattle.std.proofs.Math.Bool.{and-false}
use Rattle.std.proofs.lemmas.Bool.{and_parts, cases_lt}
use Rattle.std.proofs.lemmas.Bool.Decides.{nat_tests}
use Rattle.std.proofs.lemmas.Option.{slice_get_read, slice_get_within}
use Rattle.update_cert.specs.Change.{Action, Make, Put, Remove, Link, Unlink, AddUser, AddMember, DropMember, SetKey, Change}
use Rattle.layout.specs.Types.{Digest, INumber}
use Rattle.update_cert.specs.World.{Actor, is_root, is_table, permitted}
use Rattle.directory.specs.Directory.{Entry}
use Rattle.itable.specs.ITable.{digest_at, loaded}
use Rattle.tree_parts.specs.Blocks.{Blocks, ForEachReading}
use Rattle.tree_parts.specs.Spot.{lacks}
use Rattle.tree_parts.specs.Part.{Laid, Part, handle, opened_at, slot_at, slot_of}
use Rattle.tree_parts.specs.Slots.{slot_after}
use Rattle.itable.specs.declared.inode.Kind.TheVariants as kind
use Rattle.tree_parts.specs.Asked.{HasAskedFor, HasChunkFor, IsChunkFor, Lacks, IsInode, IsBlock, IsAskedFor, IsMadeIn, IsMetAt, IsWantedBy, asks, asks_slot, needs_inode, needs_entries, needs_slot, covers}
use Rattle.tree_parts.specs.Acts.{HasAt, HasBy, HasFor, LiesAt, LiesBy, LiesFor, LiesMet}
use Rattle.tree_parts.specs.declared.error.ApplyError.{ApplyError}
use Rattle.tree_parts.specs.declared.error.ApplyError.TheVariants as error
use Rattle.tree_parts.specs.declared.scope.Scope.{Scope}
use Rattle.tree_parts.specs.declared.scope.Scope.TheVariants as scopes
use Rattle.tree_parts.specs.declared.spot.Spot.{Spot}
use Rattle.tree_parts.proofs.SomeReading.{some_reading}
use Rattle.tree_parts.proofs.LoadLaws.{slot_loaded}

-- what is lacking is also what a wider question asks for
lacks_wider : (blocks : Blocks) (P Q : List ℕ → Spot → Type 0) (e : ApplyError) → ((digest : List ℕ) (s : Spot) → P digest s → Q digest s) → Lacks blocks P e → Lacks blocks Q e
lacks_wider blocks P Q (error.Missing digest s) wider (is, lacks) = (wider digest s is, lacks)
lacks_wider blocks P Q error.Memory wider lacks = tt

-- the change at a place
got : (cs : List (Change Digest)) (k : ℕ) (c : Change Digest) → k < length cs → c ≡ slice_index_or cs k c → slice_get cs k ≡ Some c
got cs k c inside at = slice_get_read cs (length cs) k c refl inside at

-- one that isn't made stands at another i-number than those that are
pub elsewhere : (scope : Scope) (n i : INumber) → covers scope n ≡ false → covers scope i ≡ true → (n == i) ≡ false
elsewhere scopes.All n i none covered = absurd cc
elsewhere (scopes.At m) n i none covered = grind (arith, nat_tests)

pub elsewhere_too : (scope : Scope) (n i : INumber) → covers scope n ≡ true → covers scope i ≡ false → (n == i) ≡ false
elsewhere_too scopes.All n i covered none = absurd cc
elsewhere_too (scopes.At m) n i covered none = grind (arith, nat_tests)

-- where changes at an i-number are made, the part has there what these changes make of what the first one has
abbrev pub IsSlotThen : Blocks → Scope → Actor → Part → Part → List (Change Digest) → INumber → Type 0
IsSlotThen blocks scope actor first part cs i = covers scope i ≡ true → ForEachReading blocks (λ reads. slot_at reads part i ≡ slot_after reads actor first.table.principal i cs (slot_at reads first i))

-- what lacks at an i-number is what the action there asks for
lacks_for : (blocks : Blocks) (part : Part) (c : Change Digest) (i : ℕ) (entries : Bool) (e : ApplyError) → i ≡ c.i_number → needs_entries c.action ≡ entries → needs_inode c.principal c.i_number c.action ≡ true → Lacks blocks (LiesAt blocks part i entries) e → Lacks blocks (LiesFor blocks part c) e
lacks_for blocks part c i entries e here are needs lacks =
    lacks_wider blocks (LiesAt blocks part i entries) (λ digest s. (needs_inode c.principal c.i_number c.action ≡ true) × LiesAt blocks part c.i_number (needs_entries c.action) digest s) e
    (λ digest s lies. (needs, subst (λ (n : ℕ). LiesAt blocks part n (needs_entries c.action) digest s) here (subst (λ (t : Bool). LiesAt blocks part i t digest s) (sym are) lies)))
    lacks

pub each_for : (blocks : Blocks) (part : Part) (c : Change Digest) (i : ℕ) (entries : Bool) (r : Result Bool ApplyError) → i ≡ c.i_number → needs_entries c.action ≡ entries → (IsErr r → needs_inode c.principal c.i_number c.action ≡ true)
    → IfErr r (Lacks blocks (LiesAt blocks part i entries)) → IfErr r (Lacks blocks (LiesFor blocks part c))
each_for blocks part c i entries (Ok t) here are needs lacks = tt
each_for blocks part c i entries (Err e) here are needs lacks = lacks_for blocks part c i entries e here are (needs refl) lacks

-- a change that lacks something at its turn lacks what is asked for
asked_then : (blocks : Blocks) (scope : Scope) (actor : Actor) (first part : Part) (cs : List (Change Digest)) (k : ℕ) (c : Change Digest) (digest : Digest) (s : Spot) → part.table.principal ≡ first.table.principal → handle part ≡ handle first → IsMadeIn scope part.table.principal c → k < length cs → c ≡ slice_index_or cs k c
    → IsSlotThen blocks scope actor first part (take k cs) c.i_number → LiesBy blocks actor part c digest s → IsAskedFor blocks scope actor cs first digest s
asked_then blocks scope actor first part cs k c digest s same stands (of, covered) inside at slots (inl (asked, chunk)) =
    inl (
      k,
      c,
      got cs k c inside at,
      (of ∙ same, covered),
      asked,
      subst (λ (h : Digest). IsChunkFor blocks first.table.principal h c.i_number digest s) stands (subst (λ (p : ℕ). IsChunkFor blocks p (handle part) c.i_number digest s) same chunk),
    )
asked_then blocks scope actor first part cs k c digest s same stands (of, covered) inside at slots (inr (asked, (inode, lies, wanted))) =
    inr (
      k,
      c,
      inode,
      (of ∙ same, covered),
      (got cs k c inside at, λ reads agrees. sym (slots covered reads agrees) ∙ lies reads agrees),
      asked,
      subst (λ (p : ℕ). IsInode p c.i_number inode digest s ⊎ ((needs_entries c.action ≡ true) × IsBlock blocks kind.Directory inode digest s)) (sym of) wanted,
    )

pub lacks_met : (blocks : Blocks) (scope : Scope) (actor : Actor) (first part : Part) (cs : List (Change Digest)) (k : ℕ) (c : Change Digest) (e : ApplyError) → part.table.principal ≡ first.table.principal → handle part ≡ handle first → IsMadeIn scope part.table.principal c → k < length cs → c ≡ slice_index_or cs k c
    → IsSlotThen blocks scope actor first part (take k cs) c.i_number → Lacks blocks (LiesBy blocks actor part c) e → Lacks blocks (IsAskedFor blocks scope actor cs first) e
lacks_met blocks scope actor first part cs k c e same stands made inside at slots missing =
    lacks_wider blocks (LiesBy blocks actor part c) (IsAskedFor blocks scope actor cs first) e (λ digest s lies. asked_then blocks scope actor first part cs k c digest s same stands made inside at slots lies) missing

-- an error that is handed on
pub handed_on : {X : Type 0} (r : Result X ApplyError) (v : ApplyError) (P : ApplyError → Type 0) → IsErrAnd r (λ e. e ≡ v) → P v → IfErr r P
handed_on (Ok x) v P is holds = tt
handed_on (Err e) v P is holds = subst P (sym is) holds

pub on_ok : {T E : Type 0} (r : Result T E) (P Q : Type 0) → (P → Q) → OnOk r P → OnOk r Q
on_ok (Ok x) P Q to holds = to holds
on_ok (Err e) P Q to holds = tt

-- ---- nothing of it is missing

laid_slot : (entries : Option (List Entry)) (d : Option Digest) (inode : Digest) → option_map (slot_of entries) d ≡ Some (Laid inode) → entries ≡ None
laid_slot entries None inode is = absurd cc
laid_slot (Some es) (Some d) inode is = absurd cc
laid_slot None (Some d) inode is = refl

-- where a directory is opened, none is asked for
pub has_opened : (blocks : Blocks) (part : Part) (i : ℕ) (entries : Bool) (es : List Entry) → opened_at part i ≡ Some es → HasAt blocks part i entries
has_opened blocks part i entries es there = λ digest s (inode, lies, wanted).
    let none = laid_slot (opened_at part i) (digest_at part.table i) inode lies in
    absurd cc

-- ---- so a change has what it asks for

pub has_for : {X : Type 0} (blocks : Blocks) (part : Part) (c : Change Digest) (entries : Bool) (r : Result X ApplyError) → needs_entries c.action ≡ entries → OnOk r (HasAt blocks part c.i_number entries) → OnOk r (HasFor blocks part c)
has_for blocks part c entries (Ok t) are has = λ needs digest s lies. has digest s (subst (λ (b : Bool). LiesAt blocks part c.i_number b digest s) are lies)
has_for blocks part c entries (Err e) are has = tt

other_than : (b : Bool) → not b ≡ true → b ≡ false
other_than true is = absurd cc
other_than false is = refl

-- ---- whether a change asks

pub asked_inode : (actor : Actor) (c : Change Digest) → asks actor c ≡ true → needs_inode c.principal c.i_number c.action ≡ true
asked_inode actor c asked =
    (and_parts (not (is_table c.principal c.i_number)) (needs_inode c.principal c.i_number c.action) (and_parts (permitted actor c) (not (is_table c.principal c.i_number) && needs_inode c.principal c.i_number c.action) asked).1).1

asks_it : (actor : Actor) (c : Change Digest) → permitted actor c ≡ true → is_table c.principal c.i_number ≡ false → needs_inode c.principal c.i_number c.action ≡ true → asks actor c ≡ true
asks_it actor c may place needs = rw (may, place, needs) refl

pub asks_slot_it : (actor : Actor) (c : Change Digest) → permitted actor c ≡ true → is_table c.principal c.i_number ≡ false → needs_slot actor.user c.principal c.i_number c.action ≡ true → asks_slot actor c ≡ true
asks_slot_it actor c may place needs = rw (may, place, needs) refl

inode_and_slot : (user p i : ℕ) (a : Action Digest) → needs_inode p i a ≡ true → needs_slot user p i a ≡ true
inode_and_slot user p i (Make new) needs = absurd cc
inode_and_slot user p i (Put new) needs = refl
inode_and_slot user p i Remove needs = needs
inode_and_slot user p i (Link entry) needs = refl
inode_and_slot user p i (Unlink name) needs = refl
inode_and_slot user p i (AddUser u key) needs = absurd cc
inode_and_slot user p i (AddMember g u) needs = absurd cc
inode_and_slot user p i (DropMember g u) needs = absurd cc
inode_and_slot user p i (SetKey u key) needs = absurd cc

-- where it asks for the i-node, it asks for the chunk
asks_there : (actor : Actor) (c : Change Digest) → asks actor c ≡ true → asks_slot actor c ≡ true
asks_there actor c asked =
    let outer = and_parts (permitted actor c) (not (is_table c.principal c.i_number) && needs_inode c.principal c.i_number c.action) asked in
    let inner = and_parts (not (is_table c.principal c.i_number)) (needs_inode c.principal c.i_number c.action) outer.1 in
    asks_slot_it actor c outer.0 (other_than (is_table c.principal c.i_number) inner.0) (inode_and_slot actor.user c.principal c.i_number c.action inner.1)

-- nothing is asked for where the change isn't permitted, or is at the place of the table of principals, or where it
-- doesn't matter what stands there
pub not_permitted_asks : (actor : Actor) (c : Change Digest) → permitted actor c ≡ false → asks_slot actor c ≡ false
not_permitted_asks actor c not_so = rw not_so refl

pub table_asks : (actor : Actor) (c : Change Digest) → is_table c.principal c.i_number ≡ true → asks_slot actor c ≡ false
table_asks actor c place = rw place (and-false (permitted actor c))

pub unneeded_asks : (actor : Actor) (c : Change Digest) → needs_slot actor.user c.principal c.i_number c.action ≡ false → asks_slot actor c ≡ false
unneeded_asks actor c none =
    ap (λ (t : Bool). permitted actor c && (not (is_table c.principal c.i_number) && t)) none
    ∙ ap (λ (t : Bool). permitted actor c && t) (and-false (not (is_table c.principal c.i_number)))
    ∙ and-false (permitted actor c)

-- a removal asks for nothing at the place of the root directory
pub has_removed : {X : Type 0} (blocks : Blocks) (part : Part) (c : Change Digest) (r : Result X ApplyError) → c.action ≡ Remove → (is_root c.principal c.i_number ≡ false → OnOk r (HasAt blocks part c.i_number false)) → OnOk r (HasFor blocks part c)
has_removed blocks part c (Ok t) is has = λ needs digest s lies.
    let below : is_root c.principal c.i_number ≡ false = other_than (is_root c.principal c.i_number) (sym (ap (needs_inode c.principal c.i_number) is) ∙ needs) in
    has below digest s (subst (λ (b : Bool). LiesAt blocks part c.i_number b digest s) (ap needs_entries is) lies)
has_removed blocks part c (Err e) is has = tt

-- ---- what a change asks for, once the chunk of its i-number is loaded

module _ (blocks : Blocks) (actor : Actor) (old new : Part) (c : Change Digest) (same : new.table.principal ≡ old.table.principal) (here : loaded new.table c.i_number ≡ true) (slots : ForEachReading blocks (λ reads. (i : ℕ) → slot_at reads new i ≡ slot_at reads old i)) where
  -- what lies there by the pairs lies there by each reading
  lies_met : (digest : Digest) (s : Spot) → LiesAt blocks new c.i_number (needs_entries c.action) digest s → LiesMet blocks old c digest s
  lies_met digest s (inode, lies, wanted) = (
    inode,
    λ reads agrees. sym (slots reads agrees c.i_number) ∙ slot_loaded reads new c.i_number here ∙ lies,
    subst (λ (p : ℕ). IsInode p c.i_number inode digest s ⊎ ((needs_entries c.action ≡ true) × IsBlock blocks kind.Directory inode digest s)) same wanted,
  )

  -- and the other way round
  lies_at : (digest : Digest) (s : Spot) → LiesMet blocks old c digest s → LiesAt blocks new c.i_number (needs_entries c.action) digest s
  lies_at digest s (inode, lies, wanted) =
      let some = some_reading blocks in (
        inode,
        sym (slot_loaded some.0 new c.i_number here) ∙ slots some.0 some.1 c.i_number ∙ lies some.0 some.1,
        subst (λ (p : ℕ). IsInode p c.i_number inode digest s ⊎ ((needs_entries c.action ≡ true) × IsBlock blocks kind.Directory inode digest s)) (sym same) wanted,
      )

  lacks_by : (e : ApplyError) → permitted actor c ≡ true → is_table c.principal c.i_number ≡ false → Lacks blocks (LiesFor blocks new c) e → Lacks blocks (LiesBy blocks actor old c) e
  lacks_by e may place missing =
      lacks_wider blocks (LiesFor blocks new c) (LiesBy blocks actor old c) e
      (λ digest s (needs, lies). inr (asks_it actor c may place needs, lies_met digest s lies))
      missing

  pub each_by : (r : Result Bool ApplyError) → permitted actor c ≡ true → is_table c.principal c.i_number ≡ false → IfErr r (Lacks blocks (LiesFor blocks new c)) → IfErr r (Lacks blocks (LiesBy blocks actor old c))
  each_by (Ok t) may place missing = tt
  each_by (Err e) may place missing = lacks_by e may place missing

  has_each : HasChunkFor blocks old.table.principal (handle old) c.i_number → HasFor blocks new c → (digest : Digest) (s : Spot) → LiesBy blocks actor old c digest s → lacks blocks digest s ≡ false
  has_each chunk has digest s (inl (asked, for)) = chunk digest s for
  has_each chunk has digest s (inr (asked, lies)) = has (asked_inode actor c asked) digest s (lies_at digest s lies)

  -- nothing of it is missing where neither the chunk is nor what the action asks for
  pub has_by : {X : Type 0} (r : Result X ApplyError) → HasChunkFor blocks old.table.principal (handle old) c.i_number → OnOk r (HasFor blocks new c) → OnOk r (HasBy blocks actor old c)
  has_by (Ok t) chunk has = λ digest s lies. has_each chunk has digest s lies
  has_by (Err e) chunk has = tt

-- the chunk is asked for, where the change has to know what stands there
pub lacks_slot : (blocks : Blocks) (actor : Actor) (part : Part) (c : Change Digest) (e : ApplyError) → asks_slot actor c ≡ true → Lacks blocks (IsChunkFor blocks part.table.principal (handle part) c.i_number) e → Lacks blocks (LiesBy blocks actor part c) e
lacks_slot blocks actor part c e asked missing =
    lacks_wider blocks (IsChunkFor blocks part.table.principal (handle part) c.i_number) (LiesBy blocks actor part c) e (λ digest s chunk. inl (asked, chunk)) missing

-- else nothing is
pub has_nothing : (blocks : Blocks) (actor : Actor) (part : Part) (c : Change Digest) → asks_slot actor c ≡ false → (digest : Digest) (s : Spot) → LiesBy blocks actor part c digest s → lacks blocks digest s ≡ false
has_nothing blocks actor part c none digest s (inl (asked, chunk)) = let clash : false ≡ true = sym none ∙ asked in absurd cc
has_nothing blocks actor part c none digest s (inr (asked, lies)) = let clash : false ≡ true = sym none ∙ asks_there actor c asked in absurd cc

-- ---- and the changes have what they ask for, as far as they were made

-- a change at this place asks for the chunk of its i-number, or for what it meets there
abbrev pub IsMet : Blocks → Actor → List (Change Digest) → Part → ℕ → Change Digest → Digest → Spot → Type 0
IsMet blocks actor cs part k c digest s =
    ((asks_slot actor c ≡ true) × IsChunkFor blocks part.table.principal (handle part) c.i_number digest s)
    ⊎ ((inode : Digest) × IsMetAt blocks actor cs part k c inode × (asks actor c ≡ true) × IsWantedBy blocks c inode digest s)

abbrev pub HasMet : Blocks → Scope → Actor → List (Change Digest) → Part → ℕ → Type 0
HasMet blocks scope actor cs part place =
    (k : ℕ) (c : Change Digest) (digest : Digest) (s : Spot) → k < place → slice_get cs k ≡ Some c → IsMadeIn scope part.table.principal c → IsMet blocks actor cs part k c digest s → lacks blocks digest s ≡ false

-- what a change meets at its turn lies in the part as it is then
lies_then : (blocks : Blocks) (scope : Scope) (actor : Actor) (first part : Part) (cs : List (Change Digest)) (k : ℕ) (c : Change Digest) (digest : Digest) (s : Spot) → part.table.principal ≡ first.table.principal → handle part ≡ handle first
    → IsMadeIn scope first.table.principal c → IsSlotThen blocks scope actor first part (take k cs) c.i_number → IsMet blocks actor cs first k c digest s → LiesBy blocks actor part c digest s
lies_then blocks scope actor first part cs k c digest s same stands (of, covered) slots (inl (asked, chunk)) =
    inl (
      asked,
      subst (λ (h : Digest). IsChunkFor blocks part.table.principal h c.i_number digest s) (sym stands) (subst (λ (p : ℕ). IsChunkFor blocks p (handle first) c.i_number digest s) (sym same) chunk),
    )
lies_then blocks scope actor first part cs k c digest s same stands (of, covered) slots (inr (inode, (there, meets), asked, wanted)) =
    inr (
      asked,
      (
        inode,
        λ reads agrees. slots covered reads agrees ∙ meets reads agrees,
        subst (λ (p : ℕ). IsInode p c.i_number inode digest s ⊎ ((needs_entries c.action ≡ true) × IsBlock blocks kind.Directory inode digest s)) (of ∙ sym same) wanted,
      ),
    )

pub met_next : (blocks : Blocks) (scope : Scope) (actor : Actor) (first part : Part) (cs : List (Change Digest)) (k : ℕ) (c : Change Digest) → part.table.principal ≡ first.table.principal → handle part ≡ handle first → k < length cs → c ≡ slice_index_or cs k c
    → IsSlotThen blocks scope actor first part (take k cs) c.i_number → (IsMadeIn scope part.table.principal c → HasBy blocks actor part c) → HasMet blocks scope actor cs first k → HasMet blocks scope actor cs first (k + 1)
met_next blocks scope actor first part cs k c same stands inside at slots has before = λ j d digest s lt there made met.
    elim (cases_lt j k) [
      | inl earlier ↦ before j d digest s earlier there made met
      | inr late ↦ (
          let place : j ≡ k = omega (arith, lt, late) in
          let is : c ≡ d = let both : Some c ≡ Some d = sym (got cs k c inside at) ∙ sym (ap (slice_get cs) place) ∙ there in cc in
          let here : IsMet blocks actor cs first k c digest s = subst (λ (x : Change Digest). IsMet blocks actor cs first k x digest s) (sym is) (subst (λ (n : ℕ). IsMet blocks actor cs first n d digest s) place met) in
          let own : IsMadeIn scope first.table.principal c = subst (IsMadeIn scope first.table.principal) (sym is) made in
          has (own.0 ∙ sym same, own.1) digest s (lies_then blocks scope actor first part cs k c digest s same stands own slots here))
    ]

met_of : (blocks : Blocks) (scope : Scope) (actor : Actor) (cs : List (Change Digest)) (part : Part) (place : ℕ) → length cs ≤ place → HasMet blocks scope actor cs part place → (digest : Digest) (s : Spot) → IsAskedFor blocks scope actor cs part digest s → lacks blocks digest s ≡ false
met_of blocks scope actor cs part place past has digest s (inl (k, c, at, made, asked, chunk)) =
    let inside = slice_get_within cs k c at in
    has k c digest s (omega (arith, past, inside)) at made (inl (asked, chunk))
met_of blocks scope actor cs part place past has digest s (inr (k, c, inode, made, met, asked, wanted)) =
    let inside = slice_get_within cs k c met.0 in
    has k c digest s (omega (arith, past, inside)) met.0 made (inr (inode, met, asked, wanted))

-- and all have, once all are made
pub all_met : (blocks : Blocks) (scope : Scope) (actor : Actor) (cs : List (Change Digest)) (part : Part) (place : ℕ) → length cs ≤ place → HasMet blocks scope actor cs part place → HasAskedFor blocks scope actor cs part
all_met blocks scope actor cs part place past has = λ digest s asked. met_of blocks scope actor cs part place past has digest s asked
