-- What stands at an i-number, and where a path leads, from what looks told.
use Rattle.std.proofs.Common.{subst, IfSome, ◌≡◌, ◌+◌, ◌-◌, ◌*◌, ◌≤◌, ℕ, List, [], ◌∷◌, Bool, true, false, Option, Some, None, Result, Ok, Err, IfOk, refl, sym, ap, ◌∙◌, arith, nat_lt, if◌then◌else◌}
use Rattle.std.specs.Prelude.{max}
use Rattle.std.specs.Option.{option_and_then, option_map, option_map_or}
use Rattle.layout.specs.Types.{Bytes, INumber, Principal, User}
use Rattle.directory.specs.Directory.{Entry, target_of}
use Rattle.directory.specs.declared.target.Target.{Target}
use Rattle.update_cert.specs.World.{Content, File, Directory, Principals, Tree, entries_of}
use Rattle.client_tree.specs.Questions.{IsKindOf, IsLeastFree}
use Rattle.client_tree.specs.declared.contents.SeenKind.{SeenKind}
use Rattle.client_tree.specs.declared.contents.SeenKind.TheVariants as kind
use Rattle.client_tree.specs.declared.questions.Question.TheVariants as question
use Rattle.client_verify.specs.declared.look.Look.{Look}
use Rattle.client_verify.specs.declared.look.Look.TheVariants as look
use Rattle.client_steps.specs.Anywhere.{seen}
use Rattle.commands.specs.Asked.{Outcome, Place, At, New, Old, at_end, at_place, lists, reads, refuses, content_at, entry_at, first_of, free_at, free_for, last_of, least_free, place_from, place_in, place_named, stands_of, walk}
use Rattle.commands.specs.Paths.{Path}
use Rattle.commands.specs.declared.answer.Refusal.TheVariants as refusal
use Rattle.commands.specs.declared.place.Stands.{Stands}
use Rattle.commands.specs.declared.place.Stands.TheVariants as stands
use Rattle.commands.proofs.Free.{least_found, none_found}
use Rattle.file_session.specs.declared.site.Site.{Site}
use Rattle.file_session.specs.declared.site.Site.TheVariants as site
use Rattle.file_session.specs.declared.stop.Stop.{Stop}
use Rattle.file_session.specs.Went.{IsSeenIn}
use Rattle.file_session.specs.Parts.{HasName, directory_in, end_in, file_in, listing, reading, last_name, place_at, place_of_site, last_of as last_name_of}
use Rattle.file_session.proofs.Last.{last_after, last_end}

-- ---- what stands there

pub stands_nothing : (c : Option Content) → IsKindOf kind.Nothing c → stands.Nothing ≡ stands_of c
stands_nothing c is = ap stands_of (sym is)

pub stands_file : (size : ℕ) (c : Option Content) → IsKindOf (kind.File size) c → stands.File ≡ stands_of c
stands_file size None is = absurd is
stands_file size (Some (File bytes)) is = refl
stands_file size (Some (Directory entries)) is = absurd is
stands_file size (Some (Principals table)) is = absurd is

pub stands_empty : (size : ℕ) (c : Option Content) → size ≡ 6 → IsKindOf (kind.Directory size) c → stands.EmptyDirectory ≡ stands_of c
stands_empty size None six is = absurd is
stands_empty size (Some (File bytes)) six is = absurd is
stands_empty size (Some (Directory entries)) six is = ap (λ (es : List Entry). stands_of (Some (Directory es))) (sym (is.1 six))
stands_empty size (Some (Principals table)) six is = absurd is

pub stands_used : (size : ℕ) (c : Option Content) → (size ≡ 6 → ⊥) → IsKindOf (kind.Directory size) c → stands.UsedDirectory ≡ stands_of c
stands_used size None not is = absurd is
stands_used size (Some (File bytes)) not is = absurd is
stands_used size (Some (Directory [])) not is = absurd (not (is.0 refl))
stands_used size (Some (Directory (e ∷ entries))) not is = refl
stands_used size (Some (Principals table)) not is = absurd is

-- a kind that is none of a directory, and none of a file
pub kind_no_directory : (k : SeenKind) (c : Option Content) → ((size : ℕ) → k ≡ kind.Directory size → ⊥) → IsKindOf k c → None ≡ directory_in c
kind_no_directory kind.Nothing c not is = ap directory_in (sym is)
kind_no_directory (kind.File size) None not is = refl
kind_no_directory (kind.File size) (Some (File bytes)) not is = refl
kind_no_directory (kind.File size) (Some (Directory entries)) not is = absurd is
kind_no_directory (kind.File size) (Some (Principals table)) not is = absurd is
kind_no_directory (kind.Directory size) c not is = absurd (not size refl)

pub kind_no_file : (k : SeenKind) (c : Option Content) → ((size : ℕ) → k ≡ kind.File size → ⊥) → IsKindOf k c → None ≡ file_in c
kind_no_file kind.Nothing c not is = ap file_in (sym is)
kind_no_file (kind.File size) c not is = absurd (not size refl)
kind_no_file (kind.Directory size) None not is = refl
kind_no_file (kind.Directory size) (Some (File bytes)) not is = absurd is
kind_no_file (kind.Directory size) (Some (Directory entries)) not is = refl
kind_no_file (kind.Directory size) (Some (Principals table)) not is = absurd is

pub seen_no_directory : {A : Type 0} (tree : Tree) (p : Principal) (i : INumber) (l : Look A) → ((es : List Entry) → l ≡ look.Dir es → ⊥) → IsSeenIn tree (question.At p i) (seen l) → None ≡ directory_in (tree p i)
seen_no_directory tree p i (look.Need digest) not is = absurd is
seen_no_directory tree p i (look.File bytes) not is = ap directory_in (sym is)
seen_no_directory tree p i (look.Dir es) not is = absurd (not es refl)
seen_no_directory tree p i look.None not is = ap directory_in (sym is)
seen_no_directory tree p i (look.Kind k) not is = absurd is
seen_no_directory tree p i (look.Free found) not is = absurd is
seen_no_directory tree p i (look.Broken rule) not is = absurd is

-- ---- names of a directory

pub entries_in : (c : Option Content) (es : List Entry) → Some es ≡ directory_in c → entries_of c ≡ es
entries_in None es is = cc is
entries_in (Some (File bytes)) es is = cc is
entries_in (Some (Directory entries)) es is = cc is
entries_in (Some (Principals table)) es is = cc is

pub no_entries_in : (c : Option Content) → None ≡ directory_in c → entries_of c ≡ []
no_entries_in None is = refl
no_entries_in (Some (File bytes)) is = refl
no_entries_in (Some (Directory entries)) is = cc is
no_entries_in (Some (Principals table)) is = refl

pub no_place_in : (tree : Tree) (here : Target) (name : Bytes) (c : Option Content) → None ≡ directory_in c → None ≡ place_in tree here name c
no_place_in tree here name None is = refl
no_place_in tree here name (Some (File bytes)) is = refl
no_place_in tree here name (Some (Directory entries)) is = cc is
no_place_in tree here name (Some (Principals table)) is = refl

pub some_place_in : (tree : Tree) (here : Target) (name : Bytes) (c : Option Content) (es : List Entry) → Some es ≡ directory_in c → place_in tree here name c ≡ Some (place_named tree here name (target_of es name))
some_place_in tree here name None es is = cc is
some_place_in tree here name (Some (File bytes)) es is = cc is
some_place_in tree here name (Some (Directory entries)) es is = cc is
some_place_in tree here name (Some (Principals table)) es is = cc is

none_of : (name : Bytes) → target_of [] name ≡ None
unfolding target_of
none_of name = refl

pub no_entry : (found : Option (List Entry)) (c : Option Content) (name : Bytes) → ((es : List Entry) → found ≡ Some es → ⊥) → found ≡ directory_in c → None ≡ target_of (entries_of c) name
no_entry None c name not is = sym (ap (λ (es : List Entry). target_of es name) (no_entries_in c is) ∙ none_of name)
no_entry (Some es) c name not is = absurd (not es refl)

pub one_entry : (found : Option (List Entry)) (es : List Entry) (c : Option Content) (name : Bytes) (r : Option Target) → found ≡ Some es → found ≡ directory_in c → r ≡ target_of es name → r ≡ target_of (entries_of c) name
one_entry found es c name r some is get = get ∙ ap (λ (x : List Entry). target_of x name) (sym (entries_in c es (sym some ∙ is)))

-- ---- the place of a name

pub no_place : (tree : Tree) (here : Target) (name : Bytes) (found : Option (List Entry)) (c : Option Content) → ((es : List Entry) → found ≡ Some es → ⊥) → found ≡ directory_in c → None ≡ place_in tree here name c
no_place tree here name None c not is = no_place_in tree here name c is
no_place tree here name (Some es) c not is = absurd (not es refl)

at_name : (tree : Tree) (here : Target) (name : Bytes) (found : Option (List Entry)) (es : List Entry) (c : Option Content) (r : Option Target) → found ≡ Some es → found ≡ directory_in c → r ≡ target_of es name → place_in tree here name c ≡ Some (place_named tree here name r)
at_name tree here name found es c r some is get = some_place_in tree here name c es (sym some ∙ is) ∙ ap (λ (x : Option Target). Some (place_named tree here name x)) (sym get)

pub new_place : (tree : Tree) (here : Target) (name : Bytes) (found : Option (List Entry)) (es : List Entry) (c : Option Content) (r : Option Target) → found ≡ Some es → found ≡ directory_in c → r ≡ target_of es name → ((t : Target) → r ≡ Some t → ⊥) → Some (New here name) ≡ place_in tree here name c
new_place tree here name found es c None some is get not = sym (at_name tree here name found es c None some is get)
new_place tree here name found es c (Some t) some is get not = absurd (not t refl)

pub old_place : (tree : Tree) (here : Target) (name : Bytes) (found : Option (List Entry)) (es : List Entry) (c : Option Content) (r : Option Target) (t : Target) (there : Stands) → found ≡ Some es → found ≡ directory_in c → r ≡ target_of es name → r ≡ Some t → there ≡ stands_of (content_at tree t) → Some (Old here name t there) ≡ place_in tree here name c
old_place tree here name found es c r t there some is get at stands =
    sym (at_name tree here name found es c r some is get ∙ ap (λ (x : Option Target). Some (place_named tree here name x)) at ∙ ap (λ (x : Stands). Some (Old here name t x)) (sym stands))

-- ---- one name after another

pub walk_on : (tree : Tree) (start here next : Target) (names left rest : List Bytes) (name : Bytes) → walk tree start names ≡ walk tree here left → left ≡ name ∷ rest → Some next ≡ entry_at tree here name → walk tree start names ≡ walk tree next rest
unfolding walk
walk_on tree start here next names left rest name before is found =
    before ∙ ap (walk tree here) is ∙ ap (option_and_then (λ n. walk tree n rest)) (sym found)

pub walk_off : (tree : Tree) (start here : Target) (names left rest : List Bytes) (name : Bytes) → walk tree start names ≡ walk tree here left → left ≡ name ∷ rest → None ≡ entry_at tree here name → None ≡ walk tree start names
unfolding walk
walk_off tree start here names left rest name before is found =
    sym (before ∙ ap (walk tree here) is ∙ ap (option_and_then (λ n. walk tree n rest)) (sym found))

pub walk_end : (tree : Tree) (start here : Target) (names left : List Bytes) → walk tree start names ≡ walk tree here left → left ≡ [] → Some here ≡ walk tree start names
unfolding walk
walk_end tree start here names left before is = sym (before ∙ ap (walk tree here) is)

pub place_on : (tree : Tree) (start here next : Target) (names left rest : List Bytes) (last name : Bytes) → place_from tree start names ≡ place_from tree here (last ∷ left) → left ≡ name ∷ rest → Some next ≡ entry_at tree here last → place_from tree start names ≡ place_from tree next (name ∷ rest)
unfolding place_from
place_on tree start here next names left rest last name before is found =
    before ∙ ap (λ (l : List Bytes). place_from tree here (last ∷ l)) is ∙ ap (option_and_then (λ n. place_from tree n (name ∷ rest))) (sym found)

pub place_off : (tree : Tree) (start here : Target) (names left rest : List Bytes) (last name : Bytes) → place_from tree start names ≡ place_from tree here (last ∷ left) → left ≡ name ∷ rest → None ≡ entry_at tree here last → None ≡ place_from tree start names
unfolding place_from
place_off tree start here names left rest last name before is found =
    sym (before ∙ ap (λ (l : List Bytes). place_from tree here (last ∷ l)) is ∙ ap (option_and_then (λ n. place_from tree n (name ∷ rest))) (sym found))

pub place_end : (tree : Tree) (start here : Target) (names left : List Bytes) (last : Bytes) → place_from tree start names ≡ place_from tree here (last ∷ left) → left ≡ [] → place_from tree start names ≡ place_in tree here last (content_at tree here)
unfolding place_from
place_end tree start here names left last before is = before ∙ ap (λ (l : List Bytes). place_from tree here (last ∷ l)) is

-- ---- a free i-number

pub range_is : (u : User) (p : Principal) → first_of u p ≤ last_of u p
range_is u p = go (nat_lt p 64)
  where
    go : (b : Bool) → (if b then 1 else max 1 (64 * u)) ≤ (if b then 4095 else 64 * u + 63)
    go true = omega arith
    go false = omega arith

pub free_is : (content : INumber → Option Content) (first last : INumber) (found : Option INumber) → first ≤ last → IsLeastFree content first last found → found ≡ least_free content first (last + 1 - first)
free_is content first last (Some i) some is = sym (least_found content (last + 1 - first) first i is.0 (omega (arith, is.1)) is.2 is.3)
free_is content first last None some all = sym (none_found content (last + 1 - first) first (λ j low high. all j low (omega (arith, high))))

pub free_for_is : (u : User) (p : Principal) (tree : Tree) (first last : INumber) (found : Option INumber) → first ≡ first_of u p → last ≡ last_of u p → IsLeastFree (tree p) first last found → found ≡ free_for u tree p
free_for_is u p tree first last found low high is =
    let range = range_is u p in
    free_is (tree p) first last found (omega (arith, range, low, high)) is ∙ (λ i. least_free (tree p) (low i) (high i + 1 - low i))

-- at a name that a directory lacks
pub free_at_new : (r : Result (Option INumber) Stop) (u : User) (tree : Tree) (s : Site) (directory : Target) → s ≡ site.New directory → IfOk r (λ f. f ≡ free_for u tree directory.principal) → IfOk r (λ f. (name : Bytes) → f ≡ free_at u tree (place_of_site name s))
free_at_new (Ok f) u tree s directory is h = λ name. h ∙ ap (λ (x : Site). free_at u tree (place_of_site name x)) (sym is)
free_at_new (Err e) u tree s directory is h = tt

-- ---- the site of a path

pub no_names : (tree : Tree) (start here : Target) (names left : List Bytes) (there : Stands) → here ≡ start → left ≡ names → left ≡ [] → there ≡ stands_of (content_at tree here) → Some (At here there) ≡ place_from tree start names
unfolding place_from
no_names tree start here names left there begins all none stands =
    ap (λ (x : Stands). Some (At here x)) stands ∙ ap (λ (t : Target). Some (At t (stands_of (content_at tree t)))) begins ∙ ap (place_from tree start) (sym (sym all ∙ none))

pub first_name : (tree : Tree) (start here : Target) (names all left : List Bytes) (last : Bytes) → here ≡ start → all ≡ names → all ≡ last ∷ left → place_from tree start names ≡ place_from tree here (last ∷ left)
first_name tree start here names all left last begins same is = ap (place_from tree start) (sym same ∙ is) ∙ ap (λ (t : Target). place_from tree t (last ∷ left)) (sym begins)

abbrev pub Leads : Tree → Bytes → Option Place → Result (Option Site) Stop → Type 0
Leads tree name place r = IfOk r (λ found. option_map (place_of_site name) found ≡ place)

pub site_end : (tree : Tree) (start here : Target) (names left : List Bytes) (last : Bytes) (r : Result (Option Site) Stop) → place_from tree start names ≡ place_from tree here (last ∷ left) → left ≡ [] → last_name_of names ≡ last_after last left
    → Leads tree last (place_in tree here last (content_at tree here)) r → Leads tree (last_name_of names) (place_from tree start names) r
site_end tree start here names left last r before none is leads =
    let place = place_end tree start here names left last before none in
    subst (λ (n : Bytes). Leads tree n (place_from tree start names) r) (last_end last left names is none) (subst (λ (x : Option Place). Leads tree last x r) (sym place) leads)

pub named_end : (names left : List Bytes) (last : Bytes) (r : Result (Option Site) Stop) → left ≡ [] → last_name_of names ≡ last_after last left → IfOk r (λ found. IfSome found (HasName last)) → IfOk r (λ found. IfSome found (HasName (last_name_of names)))
named_end names left last r none is named = subst (λ (n : Bytes). IfOk r (λ found. IfSome found (HasName n))) (last_end last left names is none) named

pub site_at : (tree : Tree) (o : Option Path) (p : Path) (r : Result (Option Site) Stop) → Some p ≡ o → Leads tree (last_name_of p.names) (place_from tree p.start p.names) r → Leads tree (last_name o) (place_at tree o) r
site_at tree o p r is leads = subst (λ (x : Option Path). Leads tree (last_name x) (place_at tree x) r) is leads

-- ---- what a path comes to

pub at_no_end : (tree : Tree) (comes : Option Content → Outcome) (o : Option Path) (found : Option Target) → ((t : Target) → found ≡ Some t → ⊥) → found ≡ end_in tree o → at_end tree comes o ≡ refuses refusal.NoPath
at_no_end tree comes None found not is = refl
at_no_end tree comes (Some path) None not is = ap (λ (x : Option Target). option_map_or (λ t. comes (content_at tree t)) x (refuses refusal.NoPath)) (sym is)
at_no_end tree comes (Some path) (Some t) not is = absurd (not t refl)

pub at_an_end : (tree : Tree) (comes : Option Content → Outcome) (o : Option Path) (found : Option Target) (t : Target) → found ≡ Some t → found ≡ end_in tree o → at_end tree comes o ≡ comes (content_at tree t)
at_an_end tree comes None found t some is = absurd (let none : None ≡ Some t = sym is ∙ some in cc none)
at_an_end tree comes (Some path) found t some is = ap (λ (x : Option Target). option_map_or (λ t. comes (content_at tree t)) x (refuses refusal.NoPath)) (sym is ∙ some)

pub lists_is : (found : Option (List Entry)) (c : Option Content) → found ≡ directory_in c → lists c ≡ listing found
lists_is found None is = ap listing (sym is)
lists_is found (Some (File bytes)) is = ap listing (sym is)
lists_is found (Some (Directory entries)) is = ap listing (sym is)
lists_is found (Some (Principals table)) is = ap listing (sym is)

pub reads_is : (found : Option Bytes) (c : Option Content) → found ≡ file_in c → reads c ≡ reading found
reads_is found None is = ap reading (sym is)
reads_is found (Some (File bytes)) is = ap reading (sym is)
reads_is found (Some (Directory entries)) is = ap reading (sym is)
reads_is found (Some (Principals table)) is = ap reading (sym is)

pub at_no_place : (user : User) (tree : Tree) (comes : Place → Option INumber → Outcome) (o : Option Path) (name : Bytes) (found : Option Site) → ((s : Site) → found ≡ Some s → ⊥) → option_map (place_of_site name) found ≡ place_at tree o → at_place user tree comes o ≡ refuses refusal.NoPath
at_no_place user tree comes None name found not is = refl
at_no_place user tree comes (Some path) name None not is = ap (λ (x : Option Place). option_map_or (λ p. comes p (free_at user tree p)) x (refuses refusal.NoPath)) (sym is)
at_no_place user tree comes (Some path) name (Some s) not is = absurd (not s refl)

pub at_a_place : (user : User) (tree : Tree) (comes : Place → Option INumber → Outcome) (o : Option Path) (name : Bytes) (found : Option Site) (s : Site) → found ≡ Some s → option_map (place_of_site name) found ≡ place_at tree o → at_place user tree comes o ≡ comes (place_of_site name s) (free_at user tree (place_of_site name s))
at_a_place user tree comes None name found s some is = absurd (let none : None ≡ Some (place_of_site name s) = sym is ∙ ap (option_map (place_of_site name)) some in cc none)
at_a_place user tree comes (Some path) name found s some is = ap (λ (x : Option Place). option_map_or (λ p. comes p (free_at user tree p)) x (refuses refusal.NoPath)) (sym is ∙ ap (option_map (place_of_site name)) some)

-- with the free i-number
pub at_a_free_place : (user : User) (tree : Tree) (comes : Place → Option INumber → Outcome) (o : Option Path) (name : Bytes) (found : Option Site) (s : Site) (free : Option INumber) → found ≡ Some s → option_map (place_of_site name) found ≡ place_at tree o → free ≡ free_at user tree (place_of_site name s) → at_place user tree comes o ≡ comes (place_of_site name s) free
at_a_free_place user tree comes o name found s free some is free_is = at_a_place user tree comes o name found s some is ∙ ap (comes (place_of_site name s)) (sym free_is)
