-- Files that are put into one directory, from what looks told.
use Rattle.std.proofs.Common.{◌≡◌, ◌≤◌, ◌<◌, ◌+◌, ◌-◌, ℕ, Bool, true, false, ◌||◌, List, [], ◌∷◌, Option, Some, None, Result, Ok, Err, IfOk, refl, sym, ap, ◌∙◌, arith, ltb-false, length, subst}
use Rattle.std.specs.Prelude.{MatchOption}
use Rattle.std.specs.List.{list_any}
use Rattle.std.specs.Option.{option_map, option_map_or}
use Rattle.layout.specs.Types.{Bytes, INumber, Principal, User}
use Rattle.directory.specs.Directory.{Entry}
use Rattle.directory.specs.declared.target.Target.{Target}
use Rattle.update_cert.specs.World.{Content, File, Directory, Principals, Tree}
use Rattle.itable.specs.declared.inode.TheConstants.{FILE_SIZE}
use Rattle.client_tree.specs.Questions.{IsLeastFree}
use Rattle.commands.specs.Asked.{Outcome, Place, Writes, both, content_at, first_of, free_at_from, free_from, is_large, last_of, least_free, next_from, outcome_of, place_in, puts, puts_at, puts_all, puts_each, puts_in, puts_named, refuses}
use Rattle.commands.specs.declared.answer.Refusal.{Refusal}
use Rattle.commands.specs.declared.place.Course.{Course}
use Rattle.commands.specs.declared.place.Course.TheVariants as course
use Rattle.commands.specs.Files.{have_names, name_of}
use Rattle.commands.specs.Paths.{Path}
use Rattle.commands.specs.declared.answer.Refusal.TheVariants as refusal
use Rattle.commands.specs.declared.files.NewFile.{NewFile}
use Rattle.file_session.specs.declared.putting.Spot.{Spot}
use Rattle.file_session.specs.declared.site.Site.{Site}
use Rattle.file_session.specs.declared.site.Site.TheVariants as site
use Rattle.file_session.specs.declared.stop.Stop.{Stop}
use Rattle.file_session.specs.Parts.{IsChange, IsSmall, comes_at, directory_in, end_in, next_after, place_of_site}
use Rattle.file_session.proofs.Walks.{free_is}

-- ---- the size of files

pub first_small : (files later : List NewFile) (file : NewFile) → files ≡ file ∷ later → list_any (λ f. is_large f.content.now) files ≡ false → IsSmall file.content.now
first_small files later file is none = small (is_large file.content.now) refl (sym (ap (list_any (λ f. is_large f.content.now)) is) ∙ none)
  where
    small : (b : Bool) → is_large file.content.now ≡ b → (b || list_any (λ f. is_large f.content.now) later) ≡ false → IsSmall file.content.now
    small true at none = cc none
    small false at none = ltb-false FILE_SIZE (length file.content.now) at

pub later_small : (files later : List NewFile) (file : NewFile) → files ≡ file ∷ later → list_any (λ f. is_large f.content.now) files ≡ false → list_any (λ f. is_large f.content.now) later ≡ false
later_small files later file is none = small (is_large file.content.now) (sym (ap (list_any (λ f. is_large f.content.now)) is) ∙ none)
  where
    small : (b : Bool) → (b || list_any (λ f. is_large f.content.now) later) ≡ false → list_any (λ f. is_large f.content.now) later ≡ false
    small true none = cc none
    small false none = none

-- ---- a free i-number

none_left : (content : INumber → Option Content) (i n : ℕ) → n ≡ 0 → least_free content i n ≡ None
unfolding least_free
none_left content i n none = ap (least_free content i) none

free_from_is : (u : User) (p : Principal) (tree : Tree) (from last : INumber) (found : Option INumber) → last ≡ last_of u p → from ≤ last → IsLeastFree (tree p) from last found → found ≡ free_from u tree p from
free_from_is u p tree from last found high some is = free_is (tree p) from last found some is ∙ (λ i. least_free (tree p) from (high i + 1 - from))

-- from the i-number of this number
pub free_first_is : (u : User) (p : Principal) (tree : Tree) (from first last : INumber) (found : Option INumber) → first ≡ from → last ≡ last_of u p → from ≤ last → IsLeastFree (tree p) first last found → found ≡ free_from u tree p from
free_first_is u p tree from first last found low high some is =
    let P : INumber → Type 0 = λ i. IsLeastFree (tree p) i last found in free_from_is u p tree from last found high some (subst P low is)

pub none_from : (u : User) (p : Principal) (tree : Tree) (from last : INumber) → last ≡ last_of u p → last < from → None ≡ free_from u tree p from
none_from u p tree from last high past = sym (none_left (tree p) from (last_of u p + 1 - from) (omega (arith, high, past)))

pub free_from_new : (r : Result (Option INumber) Stop) (u : User) (tree : Tree) (from : INumber) (s : Site) (directory : Target) → s ≡ site.New directory → IfOk r (λ f. f ≡ free_from u tree directory.principal from) → IfOk r (λ f. (name : Bytes) → f ≡ free_at_from u tree from (place_of_site name s))
free_from_new (Ok f) u tree from s directory is h = λ name. h ∙ ap (λ (x : Site). free_at_from u tree from (place_of_site name x)) (sym is)
free_from_new (Err e) u tree from s directory is h = tt

-- ---- one file after another

pub none_put : (u : User) (tree : Tree) (directory : Target) (from : INumber) (files : List NewFile) → length files ≡ 0 → puts_each u tree directory from files ≡ Writes []
unfolding puts_each
none_put u tree directory from [] none = refl
none_put u tree directory from (file ∷ files) none = cc none

abbrev one_of : User → Tree → Target → INumber → NewFile → List NewFile → Option Place → Outcome
one_of u tree directory from file later o =
    option_map_or (λ place. both (puts_at u tree from file place) (puts_each u tree directory (next_from from (free_at_from u tree from place)) later)) o (refuses refusal.NoPath)

put_first : (u : User) (tree : Tree) (directory : Target) (from : INumber) (later : List NewFile) (file : NewFile) (o : Option Place) → o ≡ place_in tree directory (name_of file) (content_at tree directory)
    → puts_each u tree directory from (file ∷ later) ≡ one_of u tree directory from file later o
unfolding puts_each
put_first u tree directory from later file o at = ap (one_of u tree directory from file later) (sym at)

pub put_nowhere : (u : User) (tree : Tree) (directory : Target) (from : INumber) (later : List NewFile) (file : NewFile) (found : Option Site) → ((s : Site) → found ≡ Some s → ⊥)
    → option_map (place_of_site (name_of file)) found ≡ place_in tree directory (name_of file) (content_at tree directory) → puts_each u tree directory from (file ∷ later) ≡ refuses refusal.NoPath
put_nowhere u tree directory from later file None not at = put_first u tree directory from later file None at
put_nowhere u tree directory from later file (Some s) not at = absurd (not s refl)

pub put_somewhere : (u : User) (tree : Tree) (directory : Target) (from next : INumber) (later : List NewFile) (file : NewFile) (found : Option Site) (s : Site) (free : Option INumber) (first : Outcome) → found ≡ Some s
    → option_map (place_of_site (name_of file)) found ≡ place_in tree directory (name_of file) (content_at tree directory) → free ≡ free_at_from u tree from (place_of_site (name_of file) s)
    → first ≡ puts file.content.now (place_of_site (name_of file) s) free → next ≡ next_from from free
    → puts_each u tree directory from (file ∷ later) ≡ both first (puts_each u tree directory next later)
put_somewhere u tree directory from next later file found s free first some at free_is first_is next_is =
    let place = place_of_site (name_of file) s in
    put_first u tree directory from later file (Some place) (sym (ap (option_map (place_of_site (name_of file))) some) ∙ at)
    ∙ (λ i. both (puts file.content.now place (sym free_is i)) (puts_each u tree directory (next_from from (sym free_is i)) later))
    ∙ (λ i. both (sym first_is i) (puts_each u tree directory (sym next_is i) later))

-- one file, and those after it
pub put_more : (u : User) (tree : Tree) (directory : Target) (from next : INumber) (files later : List NewFile) (file : NewFile) (first : Outcome) → files ≡ file ∷ later
    → ((l : List NewFile) → puts_each u tree directory from (file ∷ l) ≡ both first (puts_each u tree directory next l)) → puts_each u tree directory from files ≡ both first (puts_each u tree directory next later)
put_more u tree directory from next files later file first is one = ap (puts_each u tree directory from) is ∙ one later

abbrev pub OneAt : User → Tree → Target → INumber → NewFile → Option Spot → Type 0
OneAt u tree directory from file found = (l : List NewFile) → puts_each u tree directory from (file ∷ l) ≡ both (comes_at file found) (puts_each u tree directory (next_after from found) l)

pub at_spot : (u : User) (tree : Tree) (directory : Target) (from next : INumber) (file : NewFile) (found : Option Spot) (s : Spot) (first : Outcome) → found ≡ Some s → OneAt u tree directory from file found
    → first ≡ puts file.content.now (place_of_site (name_of file) s.site) s.free → next ≡ next_from from s.free → (l : List NewFile) → puts_each u tree directory from (file ∷ l) ≡ both first (puts_each u tree directory next l)
at_spot u tree directory from next file found s first some one first_is next_is l =
    one l
    ∙ ap (λ (o : Option Spot). both (comes_at file o) (puts_each u tree directory (next_after from o) l)) some
    ∙ (λ i. both (sym first_is i) (puts_each u tree directory (sym next_is i) l))

pub at_no_spot : (u : User) (tree : Tree) (directory : Target) (from : INumber) (files later : List NewFile) (file : NewFile) (found : Option Spot) → ((s : Spot) → found ≡ Some s → ⊥) → files ≡ file ∷ later → OneAt u tree directory from file found → puts_each u tree directory from files ≡ refuses refusal.NoPath
at_no_spot u tree directory from files later file None not is one = ap (puts_each u tree directory from) is ∙ one later
at_no_spot u tree directory from files later file (Some s) not is one = absurd (not s refl)

pub refusal_is : (file : NewFile) (s : Spot) (c : Course) (r : Option Refusal) → ((bytes : Bytes) → outcome_of (File bytes) c ≡ puts bytes (place_of_site (name_of file) s.site) s.free)
    → MatchOption r ((new : Content) → IsChange (outcome_of new c)) (λ why. c ≡ course.Refuse why) → MatchOption r (IsChange (comes_at file (Some s))) (λ why. comes_at file (Some s) ≡ refuses why)
refusal_is file s c None is h = subst IsChange (is file.content.now) (h (File file.content.now))
refusal_is file s c (Some why) is h = sym (is file.content.now) ∙ ap (outcome_of (File file.content.now)) h

pub no_refusal : (file : NewFile) (s : Spot) (r : Option Refusal) → MatchOption r (IsChange (comes_at file (Some s))) (λ why. comes_at file (Some s) ≡ refuses why) → ((why : Refusal) → r ≡ Some why → ⊥) → IsChange (comes_at file (Some s))
no_refusal file s None is not = is
no_refusal file s (Some why) is not = absurd (not why refl)

-- where the first one comes to a refusal, so do all
pub refused_first : (first later : Outcome) (why : Refusal) → first ≡ refuses why → both first later ≡ refuses why
refused_first first later why is = ap (λ (x : Outcome). both x later) is

-- ---- into the directory at the end of a path

pub bad_names : (u : User) (tree : Tree) (files : List NewFile) (o : Option Path) → have_names files ≡ false → puts_all u tree files o ≡ refuses refusal.NoPath
bad_names u tree files o bad = rw bad refl

good_names : (u : User) (tree : Tree) (files : List NewFile) (o : Option Path) → have_names files ≡ true → puts_all u tree files o ≡ puts_named u tree files o
good_names u tree files o good = rw good refl

abbrev into : User → Tree → List NewFile → Option Target → Outcome
into u tree files o = option_map_or (λ t. puts_in u tree files t (content_at tree t)) o (refuses refusal.NoPath)

named_into : (u : User) (tree : Tree) (files : List NewFile) (o : Option Path) (found : Option Target) → found ≡ end_in tree o → puts_named u tree files o ≡ into u tree files found
named_into u tree files None found is = sym (ap (into u tree files) is)
named_into u tree files (Some path) found is = ap (into u tree files) (sym is)

pub put_at_no_end : (u : User) (tree : Tree) (files : List NewFile) (o : Option Path) (found : Option Target) → have_names files ≡ true → ((t : Target) → found ≡ Some t → ⊥) → found ≡ end_in tree o → puts_all u tree files o ≡ refuses refusal.NoPath
put_at_no_end u tree files o None good not is = good_names u tree files o good ∙ named_into u tree files o None is
put_at_no_end u tree files o (Some t) good not is = absurd (not t refl)

put_at_end : (u : User) (tree : Tree) (files : List NewFile) (o : Option Path) (found : Option Target) (t : Target) → have_names files ≡ true → found ≡ Some t → found ≡ end_in tree o → puts_all u tree files o ≡ puts_in u tree files t (content_at tree t)
put_at_end u tree files o found t good some is = good_names u tree files o good ∙ named_into u tree files o found is ∙ ap (into u tree files) some

in_none : (u : User) (tree : Tree) (files : List NewFile) (t : Target) (c : Option Content) → None ≡ directory_in c → puts_in u tree files t c ≡ refuses refusal.NoPath
in_none u tree files t None is = refl
in_none u tree files t (Some (File bytes)) is = refl
in_none u tree files t (Some (Directory entries)) is = cc is
in_none u tree files t (Some (Principals table)) is = refl

in_some : (u : User) (tree : Tree) (files : List NewFile) (t : Target) (c : Option Content) (es : List Entry) → Some es ≡ directory_in c → puts_in u tree files t c ≡ puts_each u tree t (first_of u t.principal) files
in_some u tree files t None es is = cc is
in_some u tree files t (Some (File bytes)) es is = cc is
in_some u tree files t (Some (Directory entries)) es is = refl
in_some u tree files t (Some (Principals table)) es is = cc is

pub put_in_none : (u : User) (tree : Tree) (files : List NewFile) (o : Option Path) (found : Option Target) (t : Target) (d : Option (List Entry)) → have_names files ≡ true → found ≡ Some t → found ≡ end_in tree o
    → ((es : List Entry) → d ≡ Some es → ⊥) → d ≡ directory_in (content_at tree t) → puts_all u tree files o ≡ refuses refusal.NoPath
put_in_none u tree files o found t None good some is not none = put_at_end u tree files o found t good some is ∙ in_none u tree files t (content_at tree t) none
put_in_none u tree files o found t (Some es) good some is not at = absurd (not es refl)

pub put_in_some : (u : User) (tree : Tree) (files : List NewFile) (o : Option Path) (found : Option Target) (t : Target) (d : Option (List Entry)) (es : List Entry) (first : INumber) → have_names files ≡ true → found ≡ Some t → found ≡ end_in tree o
    → d ≡ Some es → d ≡ directory_in (content_at tree t) → first ≡ first_of u t.principal → puts_all u tree files o ≡ puts_each u tree t first files
put_in_some u tree files o found t d es first good some is at dir low =
    put_at_end u tree files o found t good some is ∙ in_some u tree files t (content_at tree t) es (sym at ∙ dir) ∙ ap (λ (i : INumber). puts_each u tree t i files) (sym low)
