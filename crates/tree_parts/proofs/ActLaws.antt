-- What stands in a part after an action.
use Rattle.std.proofs.Common.{◌≡◌, ◌≢◌, ℕ, Bool, true, false, List, [], ◌∷◌, Option, Some, None, refl, subst, sym, ap, ◌∙◌, arith}
use Rattle.std.specs.Prelude.{◌==◌, ◌&&◌, ◌||◌, not, nat_le, is_some, IsSome, if◌then◌else◌, slice_index_or}
use Rattle.std.specs.List.{slice_set}
use Rattle.std.specs.Option.{option_map}
use Rattle.std.specs.Ordering.{nat_cmp, is_eq}
use Rattle.std.proofs.Math.Bool.{and-false}
use Rattle.std.proofs.lemmas.Bool.{eqb-true, eq-eqb, ne_eqb}
use Rattle.std.proofs.lemmas.Bool.Decides.{nat_tests}
use Rattle.layout.specs.Ascending.{Stands, row_at, with_row}
use Rattle.directory.specs.Directory.{Entry, linked, unlinked}
use Rattle.itable.specs.ITable.{digest_at}
use Rattle.layout.specs.Types.{Digest}
use Rattle.update_cert.specs.Change.{Action, Make, Put, Remove, Link, Unlink, AddUser, AddMember, DropMember, SetKey, Change, action_of, table_action_of}
use Rattle.update_cert.specs.declared.change.Action.{Action as Held}
use Rattle.update_cert.specs.declared.change.Action.TheVariants as held
use Rattle.update_cert.specs.declared.change.TableChange.{TableChange}
use Rattle.update_cert.specs.declared.change.TableChange.TheVariants as table_change
use Rattle.principals.specs.Table.{Table, user_added, member_added, member_dropped, key_set}
use Rattle.update_cert.specs.World.{Content, File, Directory, Principals, Actor, Tree, permitted, has_effect, action_fits, fits, has_room, has_name, entries_of, becomes, content_after, after, after_change, is_removable, is_root, is_table, changes_table}
use Rattle.update_cert.specs.Reading.{Reading, after_read, read_action, read_change}
use Rattle.tree_parts.specs.Part.{Open, Part, Slot, Changed, HasTable, IsPart, IsPartOf, number_of, opened_at, slot_at, slot_here, slot_of, stands_at}
use Rattle.tree_parts.specs.Slots.{content_in, laid_under, slot_becomes, slot_changes, slot_after, slot_after_change}
use Rattle.tree_parts.specs.Asked.{needs_slot}
use Rattle.tree_parts.specs.Acts.{Acts, change_at, is_void_of, listed, stands_here}
use Rattle.update_cert.proofs.EffectLaws.{fits_read, other_void, table_place}
use Rattle.tree_parts.proofs.OpenedLaws.{entries_in, entries_with, is_part_with, key_test}
use Rattle.tree_parts.proofs.PartLaws.{closed}

-- the slot where these entries are open, and this digest is
abbrev pub slot_in : Option (List Entry) → Option (List ℕ) → Option Slot
slot_in entries digest = option_map (slot_of entries) digest

slot_in_with : (t : Bool) (es : List Entry) (old : Option (List Entry)) (digest : Option (List ℕ)) → (t ≡ true → IsSome digest) → slot_in (if t then Some es else old) digest ≡ (if t then Some (Changed (laid_under (slot_in old digest)) es) else slot_in old digest)
slot_in_with true es old None has = let none = has refl in absurd cc
slot_in_with true es None (Some d) has = refl
slot_in_with true es (Some others) (Some d) has = refl
slot_in_with false es old digest has = refl

-- the slot of a directory that is open
slot_opened : (es : List Entry) (entries : Option (List Entry)) (digest : Option (List ℕ)) → entries ≡ Some es → IsSome digest → slot_in entries digest ≡ Some (Changed (laid_under (slot_in entries digest)) es)
slot_opened es entries None is has = absurd cc
slot_opened es None (Some d) is has = absurd cc
slot_opened es (Some others) (Some d) is has = let same : others ≡ es = cc in ap (λ (x : List Entry). Some (Changed d x)) same

-- the slots where a directory is opened, or changes
pub slot_with : (old : Part) (opened : List Open) (o : Open) (i : ℕ) → IsSome (digest_at old.table o.i_number) → opened ≡ with_row nat_cmp number_of old.opened o
    → slot_here (record { before = old.before; table = old.table; opened = opened }) i ≡ (if o.i_number == i then Some (Changed (laid_under (slot_here old i)) o.entries) else slot_here old i)
slot_with old opened o i here with =
    let entries = ap (λ (os : List Open). entries_in os i) with ∙ entries_with old.opened o i in
    ap (λ (es : Option (List Entry)). slot_in es (digest_at old.table i)) entries
    ∙ slot_in_with (o.i_number == i) o.entries (entries_in old.opened i) (digest_at old.table i) (λ t. subst (λ (k : ℕ). IsSome (digest_at old.table k)) (eqb-true o.i_number i t) here)

-- the entries of what stands at a place
pub entries_there : (opened : List Open) (k place : ℕ) (d : Open) → Stands nat_cmp number_of opened k place → entries_in opened k ≡ Some (slice_index_or opened place d).entries
entries_there opened k place d stands = ap (option_map (λ o. o.entries)) (stands.found d)

-- ---- an entry is put in or taken out

a_directory : (content : Option Content) (es : List Entry) → Some es ≡ listed content → content ≡ Some (Directory es)
a_directory None es is = absurd cc
a_directory (Some (File bytes)) es is = absurd cc
a_directory (Some (Principals table)) es is = absurd cc
a_directory (Some (Directory others)) es is = let same : others ≡ es = cc in ap (λ (x : List Entry). Some (Directory x)) same

-- what stands where no directory is opened
pub stands_closed : (reads : Reading) (part : Part) (i : ℕ) (es : List Entry) → opened_at part i ≡ None → Some es ≡ listed (option_map reads.content (digest_at part.table i)) → stands_here reads part i ≡ Some (Directory es)
stands_closed reads part i es none found = closed reads part i none ∙ a_directory (option_map reads.content (digest_at part.table i)) es found

-- the action makes these entries of the others
abbrev pub Makes : Reading → Action Digest → List Entry → List Entry → Type 0
Makes reads action es made = (s : Option Slot) → content_in reads s ≡ Some (Directory es) → slot_becomes reads action s ≡ Some (Changed (laid_under s) made)

pub makes_linked : (reads : Reading) (es : List Entry) (entry : Entry) → Makes reads (Link entry) es (linked es entry)
makes_linked reads es entry s here = ap (λ (content : Option Content). Some (Changed (laid_under s) (linked (entries_of content) entry))) here

pub makes_unlinked : (reads : Reading) (es : List Entry) (name : List ℕ) → Makes reads (Unlink name) es (unlinked es name)
makes_unlinked reads es name s here = ap (λ (content : Option Content). Some (Changed (laid_under s) (unlinked (entries_of content) name))) here

edit_step : (reads : Reading) (c : Change Digest) (s : Option Slot) (made es es2 : List Entry) (fitted t : Bool) → (t ≡ true → s ≡ Some (Changed (laid_under s) es)) → Makes reads c.action es made → es2 ≡ (if fitted then made else es)
    → (if t then Some (Changed (laid_under s) es2) else s) ≡ (if fitted && t then slot_becomes reads c.action s else s)
edit_step reads c s made es es2 true true at makes is = ap (λ (x : List Entry). Some (Changed (laid_under s) x)) is ∙ sym (makes s (ap (content_in reads) (at refl)))
edit_step reads c s made es es2 true false at makes is = refl
edit_step reads c s made es es2 false true at makes is = ap (λ (x : List Entry). Some (Changed (laid_under s) x)) is ∙ sym (at refl)
edit_step reads c s made es es2 false false at makes is = refl

-- in a directory that is opened
pub edit_acts : (reads : Reading) (actor : Actor) (c : Change Digest) (old new : Part) (made es es2 : List Entry) (fitted : Bool) → IsPart old → opened_at old c.i_number ≡ Some es → fitted ≡ fits actor c (Some (Directory es))
    → ((i : ℕ) → slot_here new i ≡ (if c.i_number == i then Some (Changed (laid_under (slot_here old i)) es2) else slot_here old i)) → Makes reads c.action es made → es2 ≡ (if fitted then made else es) → Acts reads actor c old new fitted
edit_acts reads actor c old new made es es2 fitted part there fit news makes is =
    let here : slot_here old c.i_number ≡ Some (Changed (laid_under (slot_here old c.i_number)) es) = slot_opened es (opened_at old c.i_number) (digest_at old.table c.i_number) there (part.mapped c.i_number (ap is_some there)) in
    record {
      is_fit = fit ∙ ap (λ (s : Option Slot). fits actor c (content_in reads s)) (sym here);
      slots = λ i. news i ∙ edit_step reads c (slot_here old i) made es es2 fitted (c.i_number == i) (λ t. subst (λ (k : ℕ). slot_here old k ≡ Some (Changed (laid_under (slot_here old k)) es)) (eqb-true c.i_number i t) here) makes is;
    }

open_step : (reads : Reading) (c : Change Digest) (s : Option Slot) (made es es2 : List Entry) (t : Bool) → (t ≡ true → content_in reads s ≡ Some (Directory es)) → Makes reads c.action es made → es2 ≡ made
    → (if t then Some (Changed (laid_under s) es2) else s) ≡ (if true && t then slot_becomes reads c.action s else s)
open_step reads c s made es es2 true at makes is = ap (λ (x : List Entry). Some (Changed (laid_under s) x)) is ∙ sym (makes s (at refl))
open_step reads c s made es es2 false at makes is = refl

-- in one that wasn't: it is opened
pub open_acts : (reads : Reading) (actor : Actor) (c : Change Digest) (old new : Part) (made es es2 : List Entry) → stands_here reads old c.i_number ≡ Some (Directory es) → true ≡ fits actor c (Some (Directory es))
    → ((i : ℕ) → slot_here new i ≡ (if c.i_number == i then Some (Changed (laid_under (slot_here old i)) es2) else slot_here old i)) → Makes reads c.action es made → es2 ≡ made → Acts reads actor c old new true
open_acts reads actor c old new made es es2 here fit news makes is = record {
  is_fit = fit ∙ ap (fits actor c) (sym here);
  slots = λ i. news i ∙ open_step reads c (slot_here old i) made es es2 (c.i_number == i) (λ t. sym (ap (stands_here reads old) (eqb-true c.i_number i t)) ∙ here) makes is;
}

-- where it doesn't fit, all stays
pub void_acts : (reads : Reading) (actor : Actor) (c : Change Digest) (part : Part) → fits actor c (stands_here reads part c.i_number) ≡ false → Acts reads actor c part part false
void_acts reads actor c part fit = record { is_fit = sym fit; slots = λ i. refl }

pub no_room : (name : List ℕ) (content : Option Content) → None ≡ listed content → has_room name content ≡ false
no_room name None none = refl
no_room name (Some (File bytes)) none = refl
no_room name (Some (Directory es)) none = absurd cc
no_room name (Some (Principals table)) none = refl

pub no_name : (name : List ℕ) (content : Option Content) → None ≡ listed content → has_name name content ≡ false
no_name name None none = refl
no_name name (Some (File bytes)) none = refl
no_name name (Some (Directory es)) none = absurd cc
no_name name (Some (Principals table)) none = refl

-- ---- an opened directory that changes

key_step : (x o : Open) (k : ℕ) (rest : Option Open) (t : Bool) → is_eq (nat_cmp x.i_number k) ≡ t → (rest ≡ Some o → o.i_number ≡ k) → (if t then Some x else rest) ≡ Some o → o.i_number ≡ k
key_step x o k rest true same later found = let is : x ≡ o = cc in ap number_of (sym is) ∙ eqb-true x.i_number k (sym (key_test x.i_number k) ∙ same)
key_step x o k rest false same later found = later found

key_at : (opened : List Open) (k : ℕ) (o : Open) → row_at nat_cmp number_of opened k ≡ Some o → o.i_number ≡ k
key_at [] k o found = absurd cc
key_at (x ∷ xs) k o found = key_step x o k (row_at nat_cmp number_of xs k) (is_eq (nat_cmp x.i_number k)) refl (key_at xs k o) found

module _ (part : Part) (k place : ℕ) (d o : Open) (at : Stands nat_cmp number_of part.opened k place) (there : d ≡ slice_index_or part.opened place d) (same : o.i_number ≡ d.i_number) where
  key_stays : o.i_number ≡ k
  key_stays = same ∙ key_at part.opened k d (at.found d ∙ sym (ap (λ (x : Open). Some x) there))

  set_with : slice_set part.opened place o ≡ with_row nat_cmp number_of part.opened o
  set_with = at.sets o key_stays

  pub opened_there : opened_at part k ≡ Some d.entries
  opened_there = entries_there part.opened k place d at ∙ sym (ap (λ (x : Open). Some x.entries) there)

  mapped_there : IsPart part → IsSome (digest_at part.table o.i_number)
  mapped_there is = ap (λ (i : ℕ). is_some (digest_at part.table i)) key_stays ∙ is.mapped k (ap is_some opened_there)

  pub is_part_edited : IsPart part → IsPart (record { before = part.before; table = part.table; opened = slice_set part.opened place o })
  is_part_edited is = is_part_with part (slice_set part.opened place o) o is (mapped_there is) set_with

  pub slot_edited : IsPart part → (i : ℕ) → slot_here (record { before = part.before; table = part.table; opened = slice_set part.opened place o }) i ≡ (if k == i then Some (Changed (laid_under (slot_here part i)) o.entries) else slot_here part i)
  slot_edited is i =
      slot_with part (slice_set part.opened place o) o i (mapped_there is) set_with
      ∙ ap (λ (n : ℕ). if n == i then Some (Changed (laid_under (slot_here part i)) o.entries) else slot_here part i) key_stays

-- ---- a change of the part's principal

pub is_change : (c : Change Digest) (part : Part) (i : ℕ) (a : Action Digest) → c.principal ≡ part.table.principal → i ≡ c.i_number → a ≡ c.action → change_at part i a ≡ c
is_change c part i a of here does = rw (← of) (rw (here, does) refl)

pub permitted_is : (actor : Actor) (c : Change Digest) (p user : ℕ) (member : Bool) → c.principal ≡ p → actor.user ≡ user → actor.member p ≡ member → permitted actor c ≡ ((p == user) || (nat_le 64 p && member))
permitted_is actor c p user member of is one = rw of (rw (is, one) refl)

-- what isn't permitted, or is of the table of principals, has no effect on the slots
pub not_permitted : (reads : Reading) (actor : Actor) (c : Change Digest) (s : Option Slot) → permitted actor c ≡ false → slot_changes reads actor c s ≡ false
unfolding slot_changes has_effect
not_permitted reads actor c s forbidden = rw forbidden (and-false (not (is_table c.principal c.i_number)))

pub of_table : (reads : Reading) (actor : Actor) (c : Change Digest) (s : Option Slot) → is_table c.principal c.i_number ≡ true → slot_changes reads actor c s ≡ false
unfolding slot_changes has_effect
of_table reads actor c s is = rw is refl

is_so : (b : Bool) → not b ≡ false → b ≡ true
is_so true is = refl
is_so false is = absurd cc

-- where it doesn't matter what stands at a place, no action of a part fits there
none_fits : (actor : Actor) (p i : ℕ) (a : Action Digest) (content : Option Content) → is_table p i ≡ false → needs_slot actor.user p i a ≡ false → action_fits actor p i a content ≡ false
none_fits actor p i (Make new) content place none = rw none (and-false (not (is_some content)))
none_fits actor p i (Put new) content place none = absurd cc
none_fits actor p i Remove content place none = let root : is_root p i ≡ true = is_so (is_root p i) none in rw (place, root) (and-false (is_removable content))
none_fits actor p i (Link entry) content place none = absurd cc
none_fits actor p i (Unlink name) content place none = absurd cc
none_fits actor p i (AddUser u key) content place none = rw place refl
none_fits actor p i (AddMember g u) content place none = rw place refl
none_fits actor p i (DropMember g u) content place none = rw place refl
none_fits actor p i (SetKey u key) content place none = rw place refl

pub unneeded : (reads : Reading) (actor : Actor) (c : Change Digest) (s : Option Slot) → is_table c.principal c.i_number ≡ false → needs_slot actor.user c.principal c.i_number c.action ≡ false → slot_changes reads actor c s ≡ false
unfolding slot_changes has_effect
unneeded reads actor c s place none =
    rw place
    (ap (λ (t : Bool). permitted actor c && t) (none_fits actor c.principal c.i_number c.action (content_in reads s) place none) ∙ and-false (permitted actor c))

unchanged : (reads : Reading) (actor : Actor) (c : Change Digest) (s : Option Slot) → slot_changes reads actor c s ≡ false → slot_after_change reads actor c s ≡ s
unfolding slot_after_change
unchanged reads actor c s none = rw none refl

either : (t : Bool) (x y : Option Slot) → x ≡ y → y ≡ (if t then x else y)
either true x y is = sym is
either false x y is = refl

-- and leaves them
pub slots_still : (reads : Reading) (actor : Actor) (c : Change Digest) (s : Option Slot) (i : ℕ) → slot_changes reads actor c s ≡ false → s ≡ (if c.i_number == i then slot_after_change reads actor c s else s)
slots_still reads actor c s i not = either (c.i_number == i) (slot_after_change reads actor c s) s (unchanged reads actor c s not)

-- all else has effect where it fits
changes_fits : (reads : Reading) (actor : Actor) (c : Change Digest) (s : Option Slot) → is_table c.principal c.i_number ≡ false → permitted actor c ≡ true → slot_changes reads actor c s ≡ fits actor c (content_in reads s)
unfolding slot_changes has_effect
changes_fits reads actor c s place may = rw (place, may) refl

-- an action at a loaded i-number, said of the slots at all i-numbers
pub record Follows (reads : Reading) (actor : Actor) (c : Change Digest) (old new : Part) (fitted : Bool) : Type 0 where
  pub is_fit : fitted ≡ fits actor c (stands_at reads old c.i_number)
  pub slots : (i : ℕ) → slot_at reads new i ≡ (if fitted && (c.i_number == i) then slot_becomes reads c.action (slot_at reads old i) else slot_at reads old i)

pub has_acted : (reads : Reading) (actor : Actor) (c : Change Digest) (old new : Part) (fitted : Bool) → is_table c.principal c.i_number ≡ false → permitted actor c ≡ true → Follows reads actor c old new fitted
    → fitted ≡ slot_changes reads actor c (slot_at reads old c.i_number)
has_acted reads actor c old new fitted place may acts = acts.is_fit ∙ sym (changes_fits reads actor c (slot_at reads old c.i_number) place may)

change_step : (reads : Reading) (actor : Actor) (c : Change Digest) (s : Option Slot) (fitted t : Bool) → (t ≡ true → fitted ≡ slot_changes reads actor c s) → (if fitted && t then slot_becomes reads c.action s else s) ≡ (if t then slot_after_change reads actor c s else s)
unfolding slot_after_change
change_step reads actor c s true true is = rw (sym (is refl)) refl
change_step reads actor c s false true is = rw (sym (is refl)) refl
change_step reads actor c s true false is = refl
change_step reads actor c s false false is = refl

pub slots_acted : (reads : Reading) (actor : Actor) (c : Change Digest) (old new : Part) (fitted : Bool) (i : ℕ) → is_table c.principal c.i_number ≡ false → permitted actor c ≡ true → Follows reads actor c old new fitted
    → slot_at reads new i ≡ (if c.i_number == i then slot_after_change reads actor c (slot_at reads old i) else slot_at reads old i)
slots_acted reads actor c old new fitted i place may acts =
    acts.slots i
    ∙ change_step reads actor c (slot_at reads old i) fitted (c.i_number == i) (λ t. has_acted reads actor c old new fitted place may acts ∙ ap (λ (k : ℕ). slot_changes reads actor c (slot_at reads old k)) (eqb-true c.i_number i t))

-- ---- the table of principals stays a table

abbrev IsTableContent : Option Content → Type 0
IsTableContent content = (t : Table) × (content ≡ Some (Principals t))

chosen : (fit : Bool) (new old : Table) → IsTableContent (if fit then Some (Principals new) else Some (Principals old))
chosen true new old = (new, refl)
chosen false new old = (old, refl)

table_stays : (number : ℕ) (actor : Actor) (p i : ℕ) (may : Bool) (a : Action Content) (t : Table) → IsTableContent (if may && action_fits actor p i a (Some (Principals t)) then becomes number a (Some (Principals t)) else Some (Principals t))
table_stays number actor p i false a t = (t, refl)
table_stays number actor p i true (Make new) t = (t, refl)
table_stays number actor p i true (Put new) t = (t, refl)
table_stays number actor p i true Remove t = (t, refl)
table_stays number actor p i true (Link entry) t = (t, refl)
table_stays number actor p i true (Unlink name) t = (t, refl)
table_stays number actor p i true (AddUser u key) t = chosen _ (user_added number u key t) t
table_stays number actor p i true (AddMember g u) t = chosen _ (member_added number g u t) t
table_stays number actor p i true (DropMember g u) t = chosen _ (member_dropped number g u t) t
table_stays number actor p i true (SetKey u key) t = chosen _ (key_set number u key t) t

table_after : (actor : Actor) (c : Change Content) (content : Option Content) → IsTableContent content → IsTableContent (content_after actor c content)
unfolding content_after has_effect
table_after actor c content (t, is) = rw is (table_stays actor.number actor c.principal c.i_number (permitted actor c) c.action t)

kept_if : (t : Bool) (new old : Option Content) → IsTableContent new → IsTableContent old → IsTableContent (if t then new else old)
kept_if true new old changed stays = changed
kept_if false new old changed stays = stays

pub has_table_after : (actor : Actor) (c : Change Content) (tree : Tree) → HasTable tree → HasTable (after_change actor c tree)
has_table_after actor c tree has = kept_if ((0 == c.principal) && (1 == c.i_number)) (content_after actor c (tree 0 1)) (tree 0 1) (table_after actor c (tree 0 1) has) has

no_effect_there : (actor : Actor) (c : Change Digest) (content : Option Content) → changes_table c.action ≡ false → IsTableContent content → has_effect actor c content ≡ false
unfolding has_effect
no_effect_there actor c content other (t, is) = rw is (rw (other_void actor c.principal c.i_number c.action t other) (and-false (permitted actor c)))

-- ---- what stands, from the slots

content_becomes : (reads : Reading) (number : ℕ) (actor : Actor) (p i : ℕ) (a : Action Digest) (s : Option Slot) → is_table p i ≡ false → action_fits actor p i a (content_in reads s) ≡ true → content_in reads (slot_becomes reads a s) ≡ becomes number (read_action reads a) (content_in reads s)
content_becomes reads number actor p i (Make inode) s place fit = refl
content_becomes reads number actor p i (Put inode) s place fit = refl
content_becomes reads number actor p i Remove s place fit = refl
content_becomes reads number actor p i (Link entry) s place fit = refl
content_becomes reads number actor p i (Unlink name) s place fit = refl
content_becomes reads number actor p i (AddUser u key) s place fit = let clash = rw place at fit in absurd cc
content_becomes reads number actor p i (AddMember g u) s place fit = let clash = rw place at fit in absurd cc
content_becomes reads number actor p i (DropMember g u) s place fit = let clash = rw place at fit in absurd cc
content_becomes reads number actor p i (SetKey u key) s place fit = let clash = rw place at fit in absurd cc

content_step : (reads : Reading) (number : ℕ) (actor : Actor) (p i : ℕ) (a : Action Digest) (s : Option Slot) (may : Bool) → is_table p i ≡ false
    → content_in reads (if may && action_fits actor p i a (content_in reads s) then slot_becomes reads a s else s)
    ≡ (if may && action_fits actor p i a (content_in reads s) then becomes number (read_action reads a) (content_in reads s) else content_in reads s)
content_step reads number actor p i a s false place = refl
content_step reads number actor p i a s true place = elim (action_fits actor p i a (content_in reads s)) as (λ t. (action_fits actor p i a (content_in reads s) ≡ t) → content_in reads (if t then slot_becomes reads a s else s) ≡ (if t then becomes number (read_action reads a) (content_in reads s) else content_in reads s)) [
  | true ↦ λ fit. content_becomes reads number actor p i a s place fit
  | false ↦ λ fit. refl
] refl

content_is_after : (reads : Reading) (actor : Actor) (c : Change Digest) (s : Option Slot) → is_table c.principal c.i_number ≡ false → content_in reads (slot_after_change reads actor c s) ≡ content_after actor (read_change reads c) (content_in reads s)
unfolding slot_after_change slot_changes content_after has_effect
content_is_after reads actor c s place =
    rw (place, fits_read reads actor c.principal c.i_number c.action (content_in reads s)) (content_step reads actor.number actor c.principal c.i_number c.action s (permitted actor c) place)

followed_step : (reads : Reading) (actor : Actor) (c : Change Digest) (s : Option Slot) (content : Option Content) (t : Bool) → (t ≡ true → is_table c.principal c.i_number ≡ false) → content ≡ content_in reads s
    → (if t then content_after actor (read_change reads c) content else content) ≡ content_in reads (if t then slot_after_change reads actor c s else s)
followed_step reads actor c s content true place is = ap (content_after actor (read_change reads c)) is ∙ sym (content_is_after reads actor c s (place refl))
followed_step reads actor c s content false place is = is

own_test : (p q i k : ℕ) → p ≡ q → ((p == q) && (i == k)) ≡ (k == i)
own_test p q i k same = grind (arith, nat_tests)

same_place : (p q i k : ℕ) → p ≡ q → is_table p i ≡ false → (k == i) ≡ true → is_table q k ≡ false
same_place p q i k same place here = grind (arith, nat_tests)

-- the part of the tree after a change of its principal
pub part_followed : (reads : Reading) (actor : Actor) (c : Change Digest) (old new : Part) (tree : Tree) → c.principal ≡ old.table.principal → new.table.principal ≡ old.table.principal
    → ((i : ℕ) → slot_at reads new i ≡ (if c.i_number == i then slot_after_change reads actor c (slot_at reads old i) else slot_at reads old i)) → IsPartOf reads old tree → IsPartOf reads new (after_change actor (read_change reads c) tree)
part_followed reads actor c old new tree of same slots is = record {
  has_table = has_table_after actor (read_change reads c) tree is.has_table;
  stands = λ i place.
      let p = new.table.principal in
      let stood : tree p i ≡ stands_at reads old i = ap (λ (q : ℕ). tree q i) same ∙ is.stands i (ap (λ (q : ℕ). is_table q i) (sym same) ∙ place) in
      ap (λ (t : Bool). if t then content_after actor (read_change reads c) (tree p i) else tree p i) (own_test p c.principal i c.i_number (same ∙ sym of))
      ∙ followed_step reads actor c (slot_at reads old i) (tree p i) (c.i_number == i) (same_place p c.principal i c.i_number (same ∙ sym of) place) stood
      ∙ sym (ap (content_in reads) (slots i));
}

-- a change of another principal leaves it
pub part_foreign : (reads : Reading) (actor : Actor) (c : Change Digest) (part : Part) (tree : Tree) → c.principal ≢ part.table.principal → IsPartOf reads part tree → IsPartOf reads part (after_change actor (read_change reads c) tree)
part_foreign reads actor c part tree other is = record {
  has_table = has_table_after actor (read_change reads c) tree is.has_table;
  stands = λ i place.
      let p = part.table.principal in
      ap (λ (t : Bool). if t && (i == c.i_number) then content_after actor (read_change reads c) (tree p i) else tree p i) (ne_eqb p c.principal (λ e. other (sym e)))
      ∙ is.stands i place;
}

void_step : (reads : Reading) (actor : Actor) (c : Change Digest) (part : Part) (tree : Tree) (t : Bool) → is_table c.principal c.i_number ≡ t → c.principal ≡ part.table.principal → changes_table c.action ≡ false → IsPartOf reads part tree
    → slot_changes reads actor c (slot_at reads part c.i_number) ≡ has_effect actor c (tree c.principal c.i_number)
unfolding slot_changes
void_step reads actor c part tree true place of other is =
    let at = table_place c.principal c.i_number place in
    let there : tree c.principal c.i_number ≡ tree 0 1 = rw (at.0, at.1) refl in
    rw place (sym (no_effect_there actor c (tree c.principal c.i_number) other (is.has_table.0, there ∙ is.has_table.1)))
void_step reads actor c part tree false place of other is =
    let here : tree c.principal c.i_number ≡ stands_at reads part c.i_number = ap (λ (q : ℕ). tree q c.i_number) of ∙ is.stands c.i_number (ap (λ (q : ℕ). is_table q c.i_number) (sym of) ∙ place) in
    rw place (ap (has_effect actor c) (sym here))

-- it is void where it has no effect on the tree
pub void_followed : (reads : Reading) (actor : Actor) (c : Change Digest) (part : Part) (tree : Tree) (effect : Bool) → c.principal ≡ part.table.principal → changes_table c.action ≡ false → IsPartOf reads part tree → effect ≡ slot_changes reads actor c (slot_at reads part c.i_number) → not effect ≡ is_void_of actor part.table.principal c tree
void_followed reads actor c part tree effect of other is told =
    ap not (told ∙ void_step reads actor c part tree (is_table c.principal c.i_number) refl of other is)
    ∙ sym (ap (λ (t : Bool). (t && not (changes_table c.action)) && not (has_effect actor c (tree c.principal c.i_number))) (eq-eqb c.principal part.table.principal of)
    ∙ ap (λ (t : Bool). not t && not (has_effect actor c (tree c.principal c.i_number))) other)

-- ---- changes of the table

-- an action in memory that isn't one of the table
pub is_other : {A : Type 0} (a : Held A) → changes_table (action_of a) ≡ false
is_other (held.Make inode) = refl
is_other (held.Put inode) = refl
is_other held.Remove = refl
is_other (held.Link entry) = refl
is_other (held.Unlink old) = refl

-- and one that is
pub is_tables : (c : TableChange) → changes_table (table_action_of c) ≡ true
is_tables (table_change.AddUser u key) = refl
is_tables (table_change.AddMember g u) = refl
is_tables (table_change.DropMember g u) = refl
is_tables (table_change.SetKey u key) = refl

-- it is void in no part
pub not_of_part : (actor : Actor) (p : ℕ) (c : Change Digest) (tree : Tree) → changes_table c.action ≡ true → false ≡ is_void_of actor p c tree
not_of_part actor p c tree is = sym (ap (λ (t : Bool). ((c.principal == p) && not t) && not (has_effect actor c (tree c.principal c.i_number))) is ∙ ap (λ (t : Bool). t && not (has_effect actor c (tree c.principal c.i_number))) (and-false (c.principal == p)))

-- ---- what stands at one i-number, after changes in turn

turned : (p q i k : ℕ) → ((p == q) && (i == k)) ≡ ((q == p) && (k == i))
turned p q i k = grind (arith, nat_tests)

not_table : (p q i k : ℕ) → is_table p i ≡ false → ((p == q) && (i == k)) ≡ true → is_table q k ≡ false
not_table p q i k place here = grind (arith, nat_tests)

one_after : (reads : Reading) (actor : Actor) (p i : ℕ) (c : Change Digest) (tree : Tree) (s : Option Slot) → is_table p i ≡ false → tree p i ≡ content_in reads s
    → after_change actor (read_change reads c) tree p i ≡ content_in reads (slot_after reads actor p i (c ∷ []) s)
unfolding slot_after
one_after reads actor p i c tree s place is =
    followed_step reads actor c s (tree p i) ((p == c.principal) && (i == c.i_number)) (not_table p c.principal i c.i_number place) is
    ∙ ap (λ (t : Bool). content_in reads (if t then slot_after_change reads actor c s else s)) (turned p c.principal i c.i_number)

first_after : (reads : Reading) (actor : Actor) (p i : ℕ) (c : Change Digest) (cs : List (Change Digest)) (s : Option Slot) → slot_after reads actor p i (c ∷ cs) s ≡ slot_after reads actor p i cs (slot_after reads actor p i (c ∷ []) s)
unfolding slot_after
first_after reads actor p i c cs s = elim ((c.principal == p) && (c.i_number == i)) as (λ t.
    (if t then slot_after reads actor p i cs (slot_after_change reads actor c s) else slot_after reads actor p i cs s)
    ≡ slot_after reads actor p i cs (if t then slot_after_change reads actor c s else s)) [
      | true ↦ refl
      | false ↦ refl
    ]

-- it is what the slot there is then of; the table of principals is no part's
pub stands_after : (reads : Reading) (actor : Actor) (p i : ℕ) (cs : List (Change Digest)) (tree : Tree) (s : Option Slot) → is_table p i ≡ false → tree p i ≡ content_in reads s
    → after_read reads actor cs tree p i ≡ content_in reads (slot_after reads actor p i cs s)
unfolding after slot_after
stands_after reads actor p i [] tree s place is = is
stands_after reads actor p i (c ∷ cs) tree s place is =
    stands_after reads actor p i cs (after_change actor (read_change reads c) tree) (slot_after reads actor p i (c ∷ []) s) place (one_after reads actor p i c tree s place is)
    ∙ sym (ap (content_in reads) (first_after reads actor p i c cs s))
