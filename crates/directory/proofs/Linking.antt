-- Entries in the order of their names, as a map.
use Rattle.std.proofs.Common.{◌≡◌, ℕ, ◌<◌, ◌≤◌, true, false, cond, List, [], ◌∷◌, length, Option, Some, None, Result, refl, sym, ap, subst, ◌∙◌, arith}
use Rattle.std.specs.Prelude.{◌≢◌, is_some, MatchResult, slice_index_or, insert, remove}
use Rattle.std.specs.Int.{w16}
use Rattle.std.specs.List.{All}
use Rattle.std.specs.List.Sorted.{IsBinarySearchResult, IsSearchInRange}
use Rattle.std.specs.Option.{option_map}
use Rattle.std.specs.Ordering.{is_eq}
use Rattle.std.specs.declared.cmp.Ordering.{Ordering}
use Rattle.std.specs.declared.cmp.Ordering.TheVariants.{Less, Equal, Greater}
use Rattle.std.proofs.lemmas.Cmp.{nat_list_cmp_total, tied_itself}
use Rattle.std.proofs.lemmas.List.Elements.{All-nil, All-head, All-tail}
use Rattle.std.proofs.lemmas.Map.Lookups.{exact_bytes}
use Rattle.layout.specs.Laws.{in_range, listed_fits}
use Rattle.layout.specs.Format.{IsBytes}
use Rattle.layout.specs.Ascending.{Ascends, Stands, IsFree, row_at}
use Rattle.layout.specs.AscendingLaws.{Ordered, searched, ascends_from_fits, fits_from_ascends, ascends_with_row, ascends_without_row, all_with_row, all_without_row, length-with_row, length-without_row, row_at-with_row, row_at-without_row}
use Rattle.directory.specs.declared.target.Target.{Target}
use Rattle.directory.specs.Name.{is_name, name}
use Rattle.directory.proofs.Names.{fits_name}
use Rattle.directory.specs.Directory.{Entry, name_of, by_bytes, target, entry, directory, target_of, linked, unlinked, ChangesOnly}

-- ---- a directory's entries

-- what each entry is, wherever it stands
abbrev Each : Entry → Type 0
Each e = name.Fits e.name × target.Fits e.target

ordered : Ordered by_bytes name_of nat_list_cmp_total entry Each
ordered = record { splits = λ b e fits. ((fits.0.0, fits.1), fits.0.1); joins = λ b e each up. ((each.0, up), each.1) }

ascend : (entries : List Entry) → directory.Fits entries → All Each entries × Ascends by_bytes name_of None entries
ascend entries fits = ascends_from_fits by_bytes name_of nat_list_cmp_total entry Each ordered None entries fits.1.1

pub few : (entries : List Entry) → directory.Fits entries → length entries ≤ 1024
few entries fits = (in_range w16 0 1024 (length entries) fits.0).1

is_directory : (entries : List Entry) → length entries ≤ 1024 → All Each entries → Ascends by_bytes name_of None entries → directory.Fits entries
is_directory entries room all up = listed_fits w16 1024 entry entries (omega arith) room (fits_from_ascends by_bytes name_of nat_list_cmp_total entry Each ordered None entries all up)

pub fits_empty : (entries : List Entry) → entries ≡ [] → directory.Fits entries
unfolding Ascends
fits_empty entries e = subst directory.Fits (sym e) (is_directory [] (omega arith) (All-nil Each) tt)

pub fits_linked : (entries : List Entry) (e : Entry) → directory.Fits entries → length entries < 1024 → IsBytes e.name → is_name e.name ≡ true → target.Fits e.target → directory.Fits (linked entries e)
unfolding linked
fits_linked entries e fits room bytes is aims =
    let old = ascend entries fits in
    is_directory (linked entries e) (omega (arith, length-with_row by_bytes name_of nat_list_cmp_total entries e)) (all_with_row by_bytes name_of nat_list_cmp_total Each entries e (fits_name e.name bytes is, aims) old.0) (ascends_with_row by_bytes name_of nat_list_cmp_total None entries e refl old.1)

pub fits_unlinked : (entries : List Entry) (k : List ℕ) → directory.Fits entries → directory.Fits (unlinked entries k)
unfolding unlinked
fits_unlinked entries k fits =
    let old = ascend entries fits in
    is_directory (unlinked entries k) (omega (arith, few entries fits, length-without_row by_bytes name_of nat_list_cmp_total entries k)) (all_without_row by_bytes name_of nat_list_cmp_total Each entries k old.0) (ascends_without_row by_bytes name_of nat_list_cmp_total None entries k old.1)

-- ---- what names stand for

abbrev aim : Option Entry → Option Target
aim o = option_map (λ e. e.target) o

itself : (k : List ℕ) → is_eq (by_bytes k k) ≡ true
itself k = ap is_eq (tied_itself nat_list_cmp_total k)

differs : (a b : List ℕ) (o : Ordering) → by_bytes a b ≡ o → b ≢ a → is_eq o ≡ false
differs a b Less h other = refl
differs a b Equal h other = absurd (other (sym (exact_bytes a b h)))
differs a b Greater h other = refl

pub changes_linked : (entries : List Entry) (e : Entry) → ChangesOnly entries (linked entries e) e.name (Some e.target)
unfolding linked target_of
changes_linked entries e = record {
  changed = ap aim (row_at-with_row by_bytes name_of nat_list_cmp_total entries e e.name ∙ ap (λ t. cond t (Some e) (row_at by_bytes name_of entries e.name)) (itself e.name));
  others = λ q other. ap aim (row_at-with_row by_bytes name_of nat_list_cmp_total entries e q ∙ ap (λ t. cond t (Some e) (row_at by_bytes name_of entries q)) (differs e.name q (by_bytes e.name q) refl other));
}

pub changes_unlinked : (entries : List Entry) (k : List ℕ) → directory.Fits entries → ChangesOnly entries (unlinked entries k) k None
unfolding unlinked target_of
changes_unlinked entries k fits =
    let up = (ascend entries fits).1 in
    record {
      changed = ap aim (row_at-without_row by_bytes name_of nat_list_cmp_total None entries k k up ∙ ap (λ t. cond t None (row_at by_bytes name_of entries k)) (itself k));
      others = λ q other. ap aim (row_at-without_row by_bytes name_of nat_list_cmp_total None entries k q up ∙ ap (λ t. cond t None (row_at by_bytes name_of entries q)) (differs k q (by_bytes k q) refl other));
    }

named_step : (x : Entry) (xs : List Entry) (k : List ℕ) (o : Ordering) → by_bytes x.name k ≡ o → is_name x.name ≡ true → (is_some (aim (row_at by_bytes name_of xs k)) ≡ true → is_name k ≡ true) → is_some (aim (cond (is_eq o) (Some x) (row_at by_bytes name_of xs k))) ≡ true → is_name k ≡ true
named_step x xs k Less h named later some = later some
named_step x xs k Equal h named later some = subst (λ (n : List ℕ). is_name n ≡ true) (exact_bytes x.name k h) named
named_step x xs k Greater h named later some = later some

named_rows : (xs : List Entry) (k : List ℕ) → All Each xs → is_some (aim (row_at by_bytes name_of xs k)) ≡ true → is_name k ≡ true
named_rows [] k all some = absurd cc
named_rows (x ∷ xs) k all some = named_step x xs k (by_bytes x.name k) refl (All-head Each x xs all).0.1 (named_rows xs k (All-tail Each x xs all)) some

-- what stands for something is a name
pub named : (entries : List Entry) (k : List ℕ) → directory.Fits entries → is_some (target_of entries k) ≡ true → is_name k ≡ true
unfolding target_of
named entries k fits some = named_rows entries k (ascend entries fits).0 some

-- ---- where names stand

pub found : (entries : List Entry) → directory.Fits entries → (k : List ℕ) (r : Result ℕ ℕ) → IsSearchInRange r (length entries) → IsBinarySearchResult (λ e. by_bytes e.name k) entries r → MatchResult r (Stands by_bytes name_of entries k) (IsFree by_bytes name_of entries k)
found entries fits k r inside position = searched by_bytes name_of nat_list_cmp_total entries (ascend entries fits).1 k r inside position

pub target_of-Stands : (entries : List Entry) (k : List ℕ) (i : ℕ) (d : Entry) → Stands by_bytes name_of entries k i → target_of entries k ≡ Some (slice_index_or entries i d).target
unfolding target_of
target_of-Stands entries k i d stands = ap aim (stands.found d)

pub target_of-IsFree : (entries : List Entry) (k : List ℕ) (i : ℕ) → IsFree by_bytes name_of entries k i → target_of entries k ≡ None
unfolding target_of
target_of-IsFree entries k i free = ap aim free.found

-- the entry of these bytes' name, inserted where it is free
pub linked_at : (old new : List Entry) (i : ℕ) (x : Entry) (bytes text : List ℕ) (t : Target) → IsFree by_bytes name_of old bytes i → text ≡ bytes → x ≡ record { name = text; target = t } → new ≡ insert old i x → new ≡ linked old (record { name = bytes; target = t })
unfolding linked
linked_at old new i x bytes text t free same is inserted =
    let e : Entry = record { name = bytes; target = t } in
    inserted ∙ ap (λ (y : Entry). insert old i y) (is ∙ ap (λ (n : List ℕ). record { name = n; target = t }) same) ∙ free.inserts e refl

pub unlinked_at : (old new : List Entry) (k : List ℕ) (i : ℕ) → Stands by_bytes name_of old k i → new ≡ remove old i → new ≡ unlinked old k
unfolding unlinked
unlinked_at old new k i stands removed = removed ∙ stands.removes

pub some_at : (entries : List Entry) (k : List ℕ) (i : ℕ) → Stands by_bytes name_of entries k i → is_some (target_of entries k) ≡ true
some_at [] k i stands = absurd (omega (arith, stands.inside))
some_at (x ∷ xs) k i stands = ap is_some (target_of-Stands (x ∷ xs) k i x stands)

pub some_is_name : (entries : List Entry) (k : List ℕ) (i : ℕ) → directory.Fits entries → Stands by_bytes name_of entries k i → is_name k ≡ true
some_is_name entries k i fits stands = named entries k fits (some_at entries k i stands)
