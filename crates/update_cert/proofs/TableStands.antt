-- What stands at the table's place in a tree is the table after the changes, and void there is what is void on it.
use Rattle.std.proofs.Common.{◌≡◌, ℕ, ◌+◌, Bool, true, false, List, [], ◌∷◌, Option, Some, None, refl, sym, ap, ◌∙◌, arith}
use Rattle.std.specs.Prelude.{◌&&◌, ◌||◌, ◌==◌, not, if◌then◌else◌}
use Rattle.std.specs.List.{All}
use Rattle.std.proofs.Math.Bool.{and-false}
use Rattle.std.proofs.lemmas.Bool.Decides.{nat_tests}
use Rattle.std.proofs.lemmas.List.Elements.{All-cons, All-head, All-nil, All-tail}
use Rattle.layout.specs.Format.{after_row, FitRows}
use Rattle.layout.specs.Types.{Digest}
use Rattle.principals.specs.Table.{Table}
use Rattle.update_cert.specs.Change.{Action, Make, Put, Remove, Link, Unlink, AddUser, AddMember, DropMember, SetKey, Change, change}
use Rattle.update_cert.specs.Cert.{Cert, cert, change_rows}
use Rattle.update_cert.specs.World.{Actor, Content, Principals, Tree, permitted, has_effect, action_fits, becomes, content_after, after_change, after, void_from, is_table, changes_table, is_of_table}
use Rattle.update_cert.specs.Reading.{Reading, read_action, read_change, read_changes, after_read, void_of_table_read}
use Rattle.update_cert.specs.Tables.{alters, table_becomes, table_effect, table_after_change, table_after}
use Rattle.update_cert.specs.TableVoids.{is_void_on, table_voids}
use Rattle.update_cert.proofs.EffectLaws.{effect_read, kind_read, at_table, other_void, table_place}
use Rattle.update_cert.proofs.TableLaws.{other_alters}

all_rows : (b : Option (Change Digest)) (cs : List (Change Digest)) → FitRows (after_row change_rows) b cs → All change.Fits cs
unfolding FitRows
all_rows b [] fits = All-nil change.Fits
all_rows b (c ∷ cs) fits = All-cons change.Fits c cs fits.0 (all_rows (Some c) cs fits.1)

-- the changes of a certificate fit
pub changes_fit : (c : Cert) → cert.Fits c → All change.Fits c.changes
changes_fit c fits = all_rows None c.changes fits.1.1.1.1.1

-- ---- a change of the table

zero_test : (u : ℕ) → (0 == u) ≡ (u == 0)
zero_test u = grind (arith, nat_tests)

or_false : (b : Bool) → (b || false) ≡ b
or_false true = refl
or_false false = refl

may_change : (actor : Actor) (c : Change Digest) → c.principal ≡ 0 → permitted actor c ≡ (actor.user == 0)
may_change actor c of = rw of (or_false (0 == actor.user) ∙ zero_test actor.user)

fits_is : (actor : Actor) (p i : ℕ) (a : Action Digest) (t : Table) → is_table p i ≡ true → changes_table a ≡ true → action_fits actor p i a (Some (Principals t)) ≡ alters actor.number a t
fits_is actor p i (Make new) t place is = absurd cc
fits_is actor p i (Put new) t place is = absurd cc
fits_is actor p i Remove t place is = absurd cc
fits_is actor p i (Link entry) t place is = absurd cc
fits_is actor p i (Unlink name) t place is = absurd cc
fits_is actor p i (AddUser u key) t place is = rw place refl
fits_is actor p i (AddMember g u) t place is = rw place refl
fits_is actor p i (DropMember g u) t place is = rw place refl
fits_is actor p i (SetKey u key) t place is = rw place refl

becomes_is : (reads : Reading) (number : ℕ) (a : Action Digest) (t : Table) → changes_table a ≡ true → becomes number (read_action reads a) (Some (Principals t)) ≡ Some (Principals (table_becomes number a t))
becomes_is reads number (Make new) t is = absurd cc
becomes_is reads number (Put new) t is = absurd cc
becomes_is reads number Remove t is = absurd cc
becomes_is reads number (Link entry) t is = absurd cc
becomes_is reads number (Unlink name) t is = absurd cc
becomes_is reads number (AddUser u key) t is = refl
becomes_is reads number (AddMember g u) t is = refl
becomes_is reads number (DropMember g u) t is = refl
becomes_is reads number (SetKey u key) t is = refl

-- it has effect in the tree where it has on the table
tables_effect : (actor : Actor) (c : Change Digest) (t : Table) → is_table c.principal c.i_number ≡ true → changes_table c.action ≡ true → has_effect actor c (Some (Principals t)) ≡ table_effect actor.user actor.number c t
unfolding has_effect
tables_effect actor c t place is =
    let of = (table_place c.principal c.i_number place).0 in
    rw (fits_is actor c.principal c.i_number c.action t place is, may_change actor c of) refl

others_effect : (actor : Actor) (c : Change Digest) (t : Table) → changes_table c.action ≡ false → has_effect actor c (Some (Principals t)) ≡ false
unfolding has_effect
others_effect actor c t other = rw (other_void actor c.principal c.i_number c.action t other) (and-false (permitted actor c))

content_if : (e : Bool) (new : Option Content) (made t : Table) → new ≡ Some (Principals made) → (if e then new else Some (Principals t)) ≡ Some (Principals (if e then made else t))
content_if true new made t is = is
content_if false new made t is = refl

tables_content : (reads : Reading) (actor : Actor) (c : Change Digest) (t : Table) → is_table c.principal c.i_number ≡ true → changes_table c.action ≡ true
    → content_after actor (read_change reads c) (Some (Principals t)) ≡ Some (Principals (table_after_change actor.user actor.number c t))
unfolding content_after
tables_content reads actor c t place is =
    let e = effect_read reads actor c (Some (Principals t)) ∙ tables_effect actor c t place is in
    rw e (content_if (table_effect actor.user actor.number c t) (becomes actor.number (read_action reads c.action) (Some (Principals t))) (table_becomes actor.number c.action t) t (becomes_is reads actor.number c.action t is))

others_content : (reads : Reading) (actor : Actor) (c : Change Digest) (t : Table) → changes_table c.action ≡ false
    → content_after actor (read_change reads c) (Some (Principals t)) ≡ Some (Principals t)
unfolding content_after
others_content reads actor c t other = rw (effect_read reads actor c (Some (Principals t)) ∙ others_effect actor c t other) refl

others_change : (user number : ℕ) (c : Change Digest) (t : Table) → changes_table c.action ≡ false → table_after_change user number c t ≡ t
others_change user number c t other = rw (other_alters number c.action t other) (rw (and-false (user == 0)) refl)

here : (p i : ℕ) → is_table p i ≡ true → ((0 == p) && (1 == i)) ≡ true
here p i place = grind (arith, nat_tests)

either_way : (e : Bool) (new old : Option Content) (t : Table) → new ≡ Some (Principals t) → old ≡ Some (Principals t) → (if e then new else old) ≡ Some (Principals t)
either_way true new old t changed stays = changed
either_way false new old t changed stays = stays

stands_step : (reads : Reading) (actor : Actor) (c : Change Digest) (tree : Tree) (t : Table) (is : Bool) → changes_table c.action ≡ is → change.Fits c → tree 0 1 ≡ Some (Principals t)
    → after_change actor (read_change reads c) tree 0 1 ≡ Some (Principals (table_after_change actor.user actor.number c t))
stands_step reads actor c tree t true is fits stood =
    let place = at_table c fits is in
    rw (here c.principal c.i_number place, stood) (tables_content reads actor c t place is)
stands_step reads actor c tree t false is fits stood =
    either_way ((0 == c.principal) && (1 == c.i_number)) (content_after actor (read_change reads c) (tree 0 1)) (tree 0 1) t (ap (content_after actor (read_change reads c)) stood ∙ others_content reads actor c t is) stood
    ∙ sym (ap (λ (x : Table). Some (Principals x)) (others_change actor.user actor.number c t is))

void_is : (reads : Reading) (actor : Actor) (c : Change Digest) (tree : Tree) (t : Table) (is : Bool) → changes_table c.action ≡ is → change.Fits c → tree 0 1 ≡ Some (Principals t)
    → (is_of_table (read_change reads c) && not (has_effect actor (read_change reads c) (tree c.principal c.i_number))) ≡ is_void_on actor.user actor.number c t
void_is reads actor c tree t true is fits stood =
    let place = at_table c fits is in
    let at = table_place c.principal c.i_number place in
    let there : tree c.principal c.i_number ≡ Some (Principals t) = rw (at.0, at.1) stood in
    rw (kind_read reads c.action, is, there, effect_read reads actor c (Some (Principals t)), tables_effect actor c t place is) refl
void_is reads actor c tree t false is fits stood = rw (kind_read reads c.action, is) refl

-- ---- changes in turn

pub stands : (reads : Reading) (actor : Actor) (cs : List (Change Digest)) (tree : Tree) (t : Table) → All change.Fits cs → tree 0 1 ≡ Some (Principals t)
    → after_read reads actor cs tree 0 1 ≡ Some (Principals (table_after actor.user actor.number cs t))
unfolding after table_after
stands reads actor [] tree t fits stood = stood
stands reads actor (c ∷ cs) tree t fits stood =
    stands reads actor cs (after_change actor (read_change reads c) tree) (table_after_change actor.user actor.number c t) (All-tail change.Fits c cs fits) (stands_step reads actor c tree t (changes_table c.action) refl (All-head change.Fits c cs fits) stood)

voids_step : (n : ℕ) (s t : Bool) (xs ys : List ℕ) → s ≡ t → xs ≡ ys → (if s then n ∷ xs else xs) ≡ (if t then n ∷ ys else ys)
voids_step n true true xs ys is same = ap (λ (ns : List ℕ). n ∷ ns) same
voids_step n false false xs ys is same = same
voids_step n true false xs ys is same = absurd cc
voids_step n false true xs ys is same = absurd cc

voids_from : (n : ℕ) (reads : Reading) (actor : Actor) (cs : List (Change Digest)) (tree : Tree) (t : Table) → All change.Fits cs → tree 0 1 ≡ Some (Principals t)
    → void_from n actor is_of_table (read_changes reads cs) tree ≡ table_voids n actor.user actor.number cs t
unfolding void_from table_voids
voids_from n reads actor [] tree t fits stood = refl
voids_from n reads actor (c ∷ cs) tree t fits stood =
    let next = after_change actor (read_change reads c) tree in
    let table = table_after_change actor.user actor.number c t in
    let c_fits = All-head change.Fits c cs fits in
    voids_step n (is_of_table (read_change reads c) && not (has_effect actor (read_change reads c) (tree c.principal c.i_number))) (is_void_on actor.user actor.number c t) (void_from (n + 1) actor is_of_table (read_changes reads cs) next) (table_voids (n + 1) actor.user actor.number cs table)
    (void_is reads actor c tree t (changes_table c.action) refl c_fits stood)
    (voids_from (n + 1) reads actor cs next table (All-tail change.Fits c cs fits) (stands_step reads actor c tree t (changes_table c.action) refl c_fits stood))

pub voids_are : (reads : Reading) (actor : Actor) (cs : List (Change Digest)) (tree : Tree) (t : Table) → All change.Fits cs → tree 0 1 ≡ Some (Principals t)
    → void_of_table_read reads actor cs tree ≡ table_voids 1 actor.user actor.number cs t
voids_are reads actor cs tree t fits stood = voids_from 1 reads actor cs tree t fits stood
