-- The texts and the digests of the directories that changed.
use Rattle.std.proofs.Common.{◌≡◌, ℕ, suc, ◌+◌, ◌<◌, Bool, true, false, List, [], ◌∷◌, ◌++◌, take, drop, length, map, Option, Some, None, Vec, refl, subst, sym, ap, ◌∙◌, arith, add-one, drop-cons}
use Rattle.std.specs.Prelude.{◌==◌, ◌||◌, ◌&&◌, if◌then◌else◌, IsSome, is_some, slice_index_or}
use Rattle.std.specs.List.{All, list_all}
use Rattle.std.specs.Option.{option_map, option_map_or}
use Rattle.std.specs.Ordering.{nat_cmp, is_lt, is_eq}
use Rattle.std.specs.Str.{bytes_eq}
use Rattle.std.specs.Vec.{vec_items}
use Rattle.std.proofs.Math.Seq.{take-suc}
use Rattle.std.proofs.lemmas.Bool.{eq-eqb}
use Rattle.std.proofs.lemmas.Bool.Decides.{nat_tests}
use Rattle.std.proofs.lemmas.List.Elements.{All-append, All-cons, All-head, All-nil, All-tail}
use Rattle.std.proofs.lemmas.List.{append_assoc, flat_map_more, map-append, take-append-drop}
use Rattle.layout.specs.Hash.{hash}
use Rattle.layout.specs.Types.{Bytes}
use Rattle.layout.specs.Ascending.{Ascends, row_at, with_row}
use Rattle.itable.specs.ITable.{ITable, IsTable, digest_at, loaded}
use Rattle.itable.specs.Inode.{inode}
use Rattle.itable.specs.File.{blocks_of}
use Rattle.directory.specs.Directory.{Entry, directory}
use Rattle.tree_parts.specs.Blocks.{Blocks}
use Rattle.tree_parts.specs.Part.{Open, Part, Slot, Changed, IsPart, number_of, slot_here, slot_of}
use Rattle.tree_parts.specs.Slots.{IsReadBack, changed_texts, has_digest, holds, directory_digest, directory_inode, directory_texts, is_stored, laid_under, slot_digest}
use Rattle.tree_parts.proofs.OpenedLaws.{entries_in, key_test}
use Rattle.tree_parts.proofs.ActLaws.{slot_in, slot_with}
use Rattle.tree_parts.proofs.LoadLaws.{mapped_loaded}

-- ---- the first directories, and one more

less_less : (a b c : ℕ) → is_lt (nat_cmp a b) ≡ true → is_lt (nat_cmp b c) ≡ true → is_lt (nat_cmp a c) ≡ true
less_less a b c low high = grind (arith, nat_tests)

apart : (a b : ℕ) → is_lt (nat_cmp a b) ≡ true → is_eq (nat_cmp a b) ≡ false
apart a b low = grind (arith, nat_tests)

below : (x : Open) (xs ys : List Open) (o : Open) → Ascends nat_cmp number_of (Some x) (xs ++ o ∷ ys) → is_lt (nat_cmp x.i_number o.i_number) ≡ true
unfolding Ascends
below x [] ys o up = up.0
below x (y ∷ more) ys o up = less_less x.i_number y.i_number o.i_number up.0 (below y more ys o up.1)

with_last : (before : Option Open) (xs ys : List Open) (o : Open) → Ascends nat_cmp number_of before (xs ++ o ∷ ys) → xs ++ o ∷ [] ≡ with_row nat_cmp number_of xs o
unfolding Ascends
with_last before [] ys o up = refl
with_last before (x ∷ xs) ys o up = rw (below x xs ys o up.1) (ap (λ (os : List Open). x ∷ os) (with_last (Some x) xs ys o up.1))

take_next : (all : List Open) (k : ℕ) (o : Open) → k < length all → o ≡ slice_index_or all k o → take (k + 1) all ≡ take k all ++ o ∷ []
take_next all k o inside at = rw add-one (take-suc all k o inside ∙ ap (λ (x : Open). take k all ++ x ∷ []) (sym at))

split_at : (all : List Open) (k : ℕ) (o : Open) → k < length all → o ≡ slice_index_or all k o → all ≡ take k all ++ o ∷ drop (suc k) all
split_at all k o inside at = sym (take-append-drop k all) ∙ ap (λ (rest : List Open). take k all ++ rest) (drop-cons all k o inside ∙ ap (λ (x : Open). x ∷ drop (suc k) all) (sym at))

taken_with : (all : List Open) (k : ℕ) (o : Open) → Ascends nat_cmp number_of None all → k < length all → o ≡ slice_index_or all k o → take (k + 1) all ≡ with_row nat_cmp number_of (take k all) o
taken_with all k o up inside at = take_next all k o inside at ∙ with_last None (take k all) (drop (suc k) all) o (subst (Ascends nat_cmp number_of None) (split_at all k o inside at) up)

-- the directory at a place is open at its i-number
found_here : (before : Option Open) (xs ys : List Open) (o : Open) → Ascends nat_cmp number_of before (xs ++ o ∷ ys) → entries_in (xs ++ o ∷ ys) o.i_number ≡ Some o.entries
unfolding Ascends
found_here before [] ys o up = rw (key_test o.i_number o.i_number ∙ eq-eqb o.i_number o.i_number refl) refl
found_here before (x ∷ xs) ys o up = rw (apart x.i_number o.i_number (below x xs ys o up.1)) (found_here (Some x) xs ys o up.1)

-- so the table has a digest there
mapped_at : (base first : ITable) (all : List Open) (k : ℕ) (o : Open) → IsPart (record { before = base; table = first; opened = all }) → k < length all → o ≡ slice_index_or all k o → IsSome (digest_at first o.i_number)
mapped_at base first all k o whole inside at =
    let split = split_at all k o inside at in
    let here = ap (λ (os : List Open). entries_in os o.i_number) split ∙ found_here None (take k all) (drop (suc k) all) o (subst (Ascends nat_cmp number_of None) split whole.ascending) in
    whole.mapped o.i_number (ap is_some here)

-- and the chunk is loaded
pub open_loaded : (part : Part) (k : ℕ) (o : Open) → IsPart part → IsTable part.table → k < length part.opened → o ≡ slice_index_or part.opened k o → loaded part.table o.i_number ≡ true
open_loaded part k o whole table inside at = mapped_loaded part.table o.i_number table (mapped_at part.before part.table part.opened k o whole inside at)

-- ---- the digests

laid_step : (t : Bool) (o : Open) (d : List ℕ) (old : Option (List ℕ)) (s : Option Slot) → d ≡ directory_digest o.entries → old ≡ option_map slot_digest s → (if t then Some d else old) ≡ option_map slot_digest (if t then Some (Changed (laid_under s) o.entries) else s)
laid_step true o d old s is before = ap (λ (x : List ℕ). Some x) is
laid_step false o d old s is before = before

-- the table has the digests of the first directories that changed, and of one more
pub laid_next : (base first old new : ITable) (all : List Open) (k : ℕ) (o : Open) (d : List ℕ) → IsPart (record { before = base; table = first; opened = all }) → k < length all → o ≡ slice_index_or all k o → d ≡ directory_digest o.entries
    → ((i : ℕ) → digest_at new i ≡ (if o.i_number == i then Some d else digest_at old i)) → ((i : ℕ) → digest_at old i ≡ option_map slot_digest (slot_here (record { before = first; table = first; opened = take k all }) i))
    → (i : ℕ) → digest_at new i ≡ option_map slot_digest (slot_here (record { before = first; table = first; opened = take (k + 1) all }) i)
laid_next base first old new all k o d whole inside at is set before i =
    let part : Part = record { before = first; table = first; opened = take k all } in
    set i
    ∙ laid_step (o.i_number == i) o d (digest_at old i) (slot_here part i) is (before i)
    ∙ sym (ap (option_map slot_digest) (slot_with part (take (k + 1) all) o i (mapped_at base first all k o whole inside at) (taken_with all k o whole.ascending inside at)))

none_yet : (digest : Option (List ℕ)) → digest ≡ option_map slot_digest (option_map (slot_of None) digest)
none_yet None = refl
none_yet (Some d) = refl

-- of none of them, at first
pub laid_first : (table : ITable) (i : ℕ) → digest_at table i ≡ option_map slot_digest (slot_here (record { before = table; table = table; opened = [] }) i)
laid_first table i = none_yet (digest_at table i)

-- ---- a directory that was changed back

-- none of the first directories has the next one's i-number
none_here : (before : Option Open) (xs ys : List Open) (o : Open) → Ascends nat_cmp number_of before (xs ++ o ∷ ys) → entries_in xs o.i_number ≡ None
unfolding Ascends
none_here before [] ys o up = refl
none_here before (x ∷ xs) ys o up = rw (apart x.i_number o.i_number (below x xs ys o up.1)) (none_here (Some x) xs ys o up.1)

-- where the first directories are laid, the next one's digest is that of the first table still
digest_still : (first old : ITable) (all : List Open) (k : ℕ) (o : Open) → Ascends nat_cmp number_of None all → k < length all → o ≡ slice_index_or all k o
    → ((i : ℕ) → digest_at old i ≡ option_map slot_digest (slot_here (record { before = first; table = first; opened = take k all }) i)) → digest_at old o.i_number ≡ digest_at first o.i_number
digest_still first old all k o up inside at before =
    let none = none_here None (take k all) (drop (suc k) all) o (subst (Ascends nat_cmp number_of None) (split_at all k o inside at) up) in
    before o.i_number
    ∙ ap (λ (es : Option (List Entry)). option_map slot_digest (slot_in es (digest_at first o.i_number))) none
    ∙ sym (none_yet (digest_at first o.i_number))

-- so the table tells whether it was changed back, and what was laid whether its texts are held
pub stored_now : (blocks : Blocks) (before first old : ITable) (all : List Open) (k : ℕ) (o : Open) (laid : List Bytes) (text : Bytes) → Ascends nat_cmp number_of None all → k < length all → o ≡ slice_index_or all k o
    → laid ≡ blocks_of (directory.spell o.entries) → text ≡ inode.spell (directory_inode o.entries)
    → ((i : ℕ) → digest_at old i ≡ option_map slot_digest (slot_here (record { before = first; table = first; opened = take k all }) i))
    → is_stored blocks before first o ≡ ((has_digest before o.i_number (hash text) || has_digest old o.i_number (hash text)) && list_all (holds blocks) (laid ++ text ∷ []))
stored_now blocks before first old all k o laid text up inside at are is earlier =
    sym (ap (λ (x : Bytes). (has_digest before o.i_number (hash x) || has_digest old o.i_number (hash x)) && list_all (holds blocks) (laid ++ x ∷ [])) is
    ∙ ap (λ (x : List Bytes). (has_digest before o.i_number (directory_digest o.entries) || has_digest old o.i_number (directory_digest o.entries)) && list_all (holds blocks) (x ++ inode.spell (directory_inode o.entries) ∷ [])) are
    ∙ ap (λ (x : Option (List ℕ)). (has_digest before o.i_number (directory_digest o.entries) || option_map_or (λ stored. bytes_eq stored (directory_digest o.entries)) x false) && list_all (holds blocks) (directory_texts o.entries)) (digest_still first old all k o up inside at earlier))

-- ---- the texts

pub texts_first : (blocks : Blocks) (before first : ITable) → changed_texts blocks before first [] ≡ []
unfolding changed_texts
texts_first blocks before first = refl

-- those of a directory, unless it is stored
abbrev pub texts_unless : Bool → Open → List (List ℕ)
texts_unless t o = if t then [] else directory_texts o.entries

pub texts_next : (blocks : Blocks) (before first : ITable) (all : List Open) (k : ℕ) (o : Open) (old new : List (List ℕ)) (t : Bool) → k < length all → o ≡ slice_index_or all k o → is_stored blocks before first o ≡ t → new ≡ old ++ texts_unless t o → old ≡ changed_texts blocks before first (take k all) → new ≡ changed_texts blocks before first (take (k + 1) all)
unfolding changed_texts
texts_next blocks before first all k o old new t inside at stored more earlier =
    more
    ∙ ap (λ (b : Bool). old ++ texts_unless b o) (sym stored)
    ∙ ap (λ (texts : List (List ℕ)). texts ++ texts_unless (is_stored blocks before first o) o) earlier
    ∙ flat_map_more (λ (x : Open). texts_unless (is_stored blocks before first x) x) [] (take k all) o
    ∙ sym (ap (changed_texts blocks before first) (take_next all k o inside at))

-- a directory's texts after others
pub texts_laid : {A : Type 0} (old blocks new : List (Vec ℕ A)) (text : Vec ℕ A) (es : List Entry) → map vec_items blocks ≡ blocks_of (directory.spell es) → text.items ≡ inode.spell (directory_inode es) → new ≡ (old ++ blocks) ++ text ∷ []
    → map vec_items new ≡ map vec_items old ++ directory_texts es
texts_laid old blocks new text es are is news =
    ap (map vec_items) news
    ∙ map-append vec_items (old ++ blocks) (text ∷ [])
    ∙ ap (λ (x : List (List ℕ)). x ++ text.items ∷ []) (map-append vec_items old blocks ∙ ap (λ (x : List (List ℕ)). map vec_items old ++ x) are)
    ∙ ap (λ (x : List ℕ). (map vec_items old ++ blocks_of (directory.spell es)) ++ x ∷ []) is
    ∙ append_assoc (map vec_items old) (blocks_of (directory.spell es)) (inode.spell (directory_inode es) ∷ [])

-- ---- what is read back

abbrev AreReadBack : List Open → Type 0
AreReadBack os = All (λ o. IsReadBack o.entries) os

pub read_next : (all : List Open) (k : ℕ) (o : Open) → k < length all → o ≡ slice_index_or all k o → IsReadBack o.entries → AreReadBack (take k all) → AreReadBack (take (k + 1) all)
read_next all k o inside at is before =
    subst AreReadBack (sym (take_next all k o inside at)) (All-append (λ x. IsReadBack x.entries) (take k all) (o ∷ []) before (All-cons (λ x. IsReadBack x.entries) o [] is (All-nil (λ x. IsReadBack x.entries))))

read_step : (x : Open) (rest : Option Open) (entries : List Entry) (t : Bool) → IsReadBack x.entries → (option_map (λ o. o.entries) rest ≡ Some entries → IsReadBack entries) → option_map (λ o. o.entries) (if t then Some x else rest) ≡ Some entries → IsReadBack entries
read_step x rest entries true is later found = let same : x.entries ≡ entries = cc in subst IsReadBack same is
read_step x rest entries false is later found = later found

read_in : (os : List Open) (i : ℕ) (entries : List Entry) → AreReadBack os → entries_in os i ≡ Some entries → IsReadBack entries
read_in [] i entries all found = absurd cc
read_in (x ∷ xs) i entries all found =
    read_step x (row_at nat_cmp number_of xs i) entries (is_eq (nat_cmp x.i_number i)) (All-head (λ o. IsReadBack o.entries) x xs all) (read_in xs i entries (All-tail (λ o. IsReadBack o.entries) x xs all)) found

changed_at : (es : Option (List Entry)) (digest : Option (List ℕ)) (laid : List ℕ) (entries : List Entry) → slot_in es digest ≡ Some (Changed laid entries) → es ≡ Some entries
changed_at None None laid entries is = absurd cc
changed_at None (Some d) laid entries is = absurd cc
changed_at (Some es) None laid entries is = absurd cc
changed_at (Some es) (Some d) laid entries is = let same : es ≡ entries = cc in ap (λ (x : List Entry). Some x) same

pub read_at : (part : Part) (i : ℕ) (laid : List ℕ) (entries : List Entry) → AreReadBack part.opened → slot_here part i ≡ Some (Changed laid entries) → IsReadBack entries
read_at part i laid entries all at = read_in part.opened i entries all (changed_at (entries_in part.opened i) (digest_at part.table i) laid entries at)
