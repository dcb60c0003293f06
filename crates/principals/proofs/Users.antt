-- The users of a table: user 0, and the others above it.
use Rattle.std.proofs.Common.{◌≡◌, ◌≢◌, ℕ, zero, suc, ◌+◌, ◌-◌, ◌<◌, ◌≤◌, Bool, true, false, ◌||◌, List, [], ◌∷◌, ◌++◌, length, Option, Some, None, refl, sym, ap, subst, ◌∙◌, append_assoc, inl, inr, arith, map}
use Rattle.std.specs.Prelude.{◌==◌, find, is_some, slice_index_or, nat_le, not, if◌then◌else◌}
use Rattle.std.specs.Int.{w8, w16, w32}
use Rattle.std.specs.List.{All, list_any, slice_get, slice_set}
use Rattle.std.specs.Ordering.{nat_cmp, is_lt, is_eq}
use Rattle.std.proofs.lemmas.Bool.{eqb-true, eq-eqb, ne_eqb, cases_eq, cases_lt, and_parts, le-leb, leb-false, leb-true}
use Rattle.std.proofs.lemmas.Bool.Decides.{nat_tests}
use Rattle.std.proofs.lemmas.Cmp.{nat_cmp_total}
use Rattle.std.proofs.lemmas.List.{append-nil, length-append}
use Rattle.std.proofs.lemmas.List.Elements.{All-head, All-tail}
use Rattle.std.proofs.lemmas.List.Folds.{list_any-append}
use Rattle.layout.specs.Format.{FitRows, RowAfter, after_row, followed, guarded, mapped, uint_in}
use Rattle.layout.specs.Laws.{in_range, in_range_fits}
use Rattle.layout.specs.Ranges.{user}
use Rattle.layout.specs.Sizes.{KeysAscend, least_key, few_rows}
use Rattle.layout.specs.Ascending.{Ascends, Stands, above, row_at, with_row}
use Rattle.layout.specs.AscendingKeys.{key_test, less_from_lt, lt_from_less}
use Rattle.layout.specs.AscendingLaws.{Ordered, ascends_from_fits, fits_from_ascends, ascends_with_row, all_with_row, none_following}
use Rattle.layout.specs.declared.error.ReadError.TheVariants.{Order}
use Rattle.principals.specs.declared.error.TableError.TheVariants.{KeysFull, Listed, Pinned, TooSoon, Unlisted}
use Rattle.principals.specs.declared.table.Renewal.{Renewal}
use Rattle.principals.specs.declared.table.Row.{Row}
use Rattle.principals.specs.Table.{Listing, Table, user_of, genesis, key_refused, last_since, listing_refused, user_refused, with_key, with_later}
use Rattle.principals.specs.TableText.{Either, Users, are_renewed, is_renewed, key, keys, keys_of, last_user, listing, may_have, none_of, renewals, several, single, table, user_rows, users, with_first, without_rows}
use Rattle.principals.specs.Kept.{AreUsers, any_listing}
use Rattle.principals.proofs.Bools.{or_false, or_true}

-- a user other than user 0, wherever it stands
abbrev pub Each : Listing → Type 0
Each l = user.Fits l.user × (keys (Some l) (may_have (Some l)) l.user).Fits (keys_of l)

-- its row, whatever stands before it
abbrev other_row : RowAfter Listing
other_row before =
    mapped (λ (user, (first, later)). record { user = user; since = first.since; key = first.key; later = later })
    (λ l. (l.user, keys_of l))
    (followed (guarded user (above nat_cmp user_of before) Order) (keys (Some (record { user = 0; since = 0; key = []; later = [] })) (λ _. true)))

ordered : Ordered nat_cmp user_of nat_cmp_total other_row Each
ordered = record { splits = λ b l fits. ((fits.0.0, fits.1), fits.0.1); joins = λ b l each up. ((each.0, up), each.1) }

to_other : (b : Listing) (xs : List Listing) → FitRows (after_row any_listing) (Some b) xs → FitRows (after_row other_row) (Some b) xs
unfolding FitRows
to_other b [] fits = tt
to_other b (x ∷ xs) fits = (fits.0, to_other x xs fits.1)

from_other : (b : Listing) (xs : List Listing) → FitRows (after_row other_row) (Some b) xs → FitRows (after_row any_listing) (Some b) xs
unfolding FitRows
from_other b [] fits = tt
from_other b (x ∷ xs) fits = (fits.0, from_other x xs fits.1)

parts : (s : Listing) (os : List Listing) → AreUsers (s ∷ os) → (any_listing None).Fits s × FitRows (after_row any_listing) (Some s) os
unfolding FitRows
parts s os are = are.rows

pub others : (s : Listing) (os : List Listing) → AreUsers (s ∷ os) → All Each os × Ascends nat_cmp user_of (Some s) os
others s os are = ascends_from_fits nat_cmp user_of nat_cmp_total other_row Each ordered (Some s) os (to_other s os (parts s os are).1)

from_none : (b : Option Listing) (xs : List Listing) → Ascends nat_cmp user_of b xs → Ascends nat_cmp user_of None xs
unfolding Ascends
from_none b [] up = tt
from_none b (x ∷ xs) up = (refl, up.1)

pub others_ascend : (s : Listing) (os : List Listing) → AreUsers (s ∷ os) → Ascends nat_cmp user_of None os
others_ascend s os are = from_none (Some s) os (others s os are).1

-- user 0 is the first
pub super_is : (s : Listing) (os : List Listing) → AreUsers (s ∷ os) → s.user ≡ 0
super_is s os are = eqb-true s.user 0 (parts s os are).0.0.1

-- ---- how many there are

less_is : (a b : ℕ) → is_lt (nat_cmp a b) ≡ true → a < b
less_is a b h = grind (arith, nat_tests)

is_less : (a b : ℕ) → a < b → is_lt (nat_cmp a b) ≡ true
is_less a b h = grind (arith, nat_tests)

keys_at : (b : Option Listing) (l : Listing) → (any_listing b).Fits l → (least_key user_of 0 b ≤ l.user) × (l.user < 64)
keys_at None l fits = (omega arith, omega (arith, (in_range w8 0 63 l.user fits.0.0).1))
keys_at (Some b) l fits = (less_is b.user l.user fits.0.1, omega (arith, (in_range w8 0 63 l.user fits.0.0).1))

keys_ascend : KeysAscend any_listing user_of 0 64
keys_ascend = record { holds = keys_at }

few : (xs : List Listing) → FitRows (after_row any_listing) None xs → length xs ≤ 64
few xs fits = omega (arith, few_rows any_listing user_of 0 64 keys_ascend None xs fits (omega arith))

pub few_users : (s : Listing) (os : List Listing) → AreUsers (s ∷ os) → length os ≤ 63
few_users s os fits = omega (arith, few (s ∷ os) fits.rows)

-- ---- one more

pub fits_added : (s : Listing) (os : List Listing) (l : Listing) → AreUsers (s ∷ os) → Each l → 0 < l.user → AreUsers (s ∷ with_row nat_cmp user_of os l)
unfolding FitRows
fits_added s os l fits each positive =
    let old = others s os fits in
    let first = super_is s os fits in
    let up = ascends_with_row nat_cmp user_of nat_cmp_total (Some s) os l (is_less s.user l.user (omega arith)) old.1 in
    let all = all_with_row nat_cmp user_of nat_cmp_total Each os l each old.0 in
    let new = with_row nat_cmp user_of os l in
    let rows : FitRows (after_row any_listing) None (s ∷ new) = ((parts s os fits).0, from_other s new (fits_from_ascends nat_cmp user_of nat_cmp_total other_row Each ordered (Some s) new all up)) in
    record {
      count = in_range_fits w8 1 255 (length (s ∷ new)) (omega (arith, few (s ∷ new) rows)) (omega arith) (omega (arith, few (s ∷ new) rows));
      rows = rows;
    }

pub each_new : (u n : ℕ) (k : List ℕ) → user.Fits u → (uint_in w32 1 4294967295).Fits n → key.Fits k → Each (record { user = u; since = n; key = k; later = [] })
unfolding FitRows
each_new u n k by at of = (by, ((in_range_fits w8 1 16 1 (omega arith) (omega arith) (omega arith), refl), ((at, of), (refl, tt))))

-- another user stands after user 0
pub first_stays : (s : Listing) (os : List Listing) (l : Listing) → AreUsers (s ∷ os) → 0 < l.user → with_row nat_cmp user_of (s ∷ os) l ≡ s ∷ with_row nat_cmp user_of os l
first_stays s os l fits positive =
    let first = super_is s os fits in
    rw (is_less s.user l.user (omega arith)) refl

-- ---- looking up

same_test : (a b : ℕ) → (a == b) ≡ is_eq (nat_cmp a b)
same_test a b =
    elim (cases_eq a b) [
      | inl e ↦ let same : is_eq (nat_cmp a b) ≡ true = grind (arith, nat_tests) in eq-eqb a b e ∙ sym same
      | inr e ↦ let other : is_eq (nat_cmp a b) ≡ false = grind (arith, nat_tests) in ne_eqb a b e ∙ sym other
    ]

pub found_is : (xs : List Listing) (u : ℕ) → find (λ l. l.user == u) xs ≡ row_at nat_cmp user_of xs u
found_is [] u = refl
found_is (x ∷ xs) u =
    ap (λ t. if t then Some x else find (λ l. l.user == u) xs) (same_test x.user u) ∙ ap (λ o. if is_eq (nat_cmp x.user u) then Some x else o) (found_is xs u)

pub lists_is : (xs : List Listing) (u : ℕ) → is_some (find (λ l. l.user == u) xs) ≡ list_any (λ l. l.user == u) xs
lists_is [] u = refl
lists_is (x ∷ xs) u =
    elim (x.user == u) as (λ t. is_some (if t then Some x else find (λ l. l.user == u) xs) ≡ (t || list_any (λ l. l.user == u) xs)) [ true ↦ refl | false ↦ lists_is xs u ]

pub listed_some : (xs : List Listing) (u : ℕ) (l : Listing) → row_at nat_cmp user_of xs u ≡ Some l → list_any (λ x. x.user == u) xs ≡ true
listed_some xs u l at = sym (lists_is xs u) ∙ ap is_some (found_is xs u ∙ at)

pub listed_none : (xs : List Listing) (u : ℕ) → row_at nat_cmp user_of xs u ≡ None → list_any (λ x. x.user == u) xs ≡ false
listed_none xs u at = sym (lists_is xs u) ∙ ap is_some (found_is xs u ∙ at)

-- where it isn't user 0, it is looked for among the others
pub found_later : (s : Listing) (os : List Listing) (u : ℕ) (o : Option Listing) → (s.user == u) ≡ false → row_at nat_cmp user_of os u ≡ o → find (λ l. l.user == u) (s ∷ os) ≡ o
found_later s os u o apart at = rw apart (found_is os u ∙ at)

pub refused_there : (s : Listing) (os : List Listing) (u : ℕ) → list_any (λ l. l.user == u) os ≡ true → user_refused (without_rows (s ∷ os)) u ≡ Some Listed
refused_there s os u there = rw there (rw (or_true (s.user == u)) refl)

pub refused_none : (s : Listing) (os : List Listing) (u : ℕ) → (s.user == u) ≡ false → list_any (λ l. l.user == u) os ≡ false → user_refused (without_rows (s ∷ os)) u ≡ None
refused_none s os u apart none = rw (apart, none) refl

pub positive : (s : Listing) (os : List Listing) (u : ℕ) → AreUsers (s ∷ os) → (s.user == u) ≡ false → 0 < u
positive s os u fits apart =
    elim (cases_eq u 0) [
      | inl e ↦ (
          let same : (s.user == u) ≡ true = eq-eqb s.user u (super_is s os fits ∙ sym e) in
          absurd cc)
      | inr ne ↦ omega arith
    ]

-- ---- users that have a text

at_end : (ls : List Listing) (l : Listing) → slice_get (ls ++ l ∷ []) (length ls) ≡ Some l
at_end [] l = refl
at_end (x ∷ ls) l = at_end ls l

last_one : (ls : List Listing) (l : Listing) → last_user (ls ++ l ∷ []) ≡ Some l
last_one ls l =
    let place : length (ls ++ l ∷ []) - 1 ≡ length ls = omega (arith, length-append ls (l ∷ [])) in
    ap (slice_get (ls ++ l ∷ [])) place ∙ at_end ls l

second : (b : Bool) (n : ℕ) → (b || (nat_le 1 n || false)) ≡ true → (b || (not (1 == 1) || nat_le 2 (suc n))) ≡ true
second true n h = refl
second false n h =
    let one : 1 ≤ n = leb-true 1 n (sym (or_false (nat_le 1 n)) ∙ h) in
    rw (le-leb 2 (suc n) (omega arith)) refl

later_left : (k n : ℕ) (b : Bool) → 2 ≤ k → (b || (not (k == 1) || nat_le 2 n)) ≡ true
later_left k n true two = refl
later_left k n false two = rw (ne_eqb k 1 (λ e. absurd (omega (arith, e, two)))) refl

joined : (a b c : Bool) → ((a || (b || false)) || c) ≡ (a || (b || c))
joined true b c = refl
joined false true c = refl
joined false false c = refl

still : (came ls : List Listing) (l : Listing) → (are_renewed came || are_renewed (l ∷ ls)) ≡ true → (are_renewed (came ++ l ∷ []) || are_renewed ls) ≡ true
still came ls l h = ap (λ b. b || are_renewed ls) (list_any-append is_renewed came (l ∷ [])) ∙ joined (are_renewed came) (is_renewed l) (are_renewed ls) ∙ h

rows_several : (s : Users) (ls : List Listing) → s.left ≡ length ls → (are_renewed s.came || are_renewed ls) ≡ true → FitRows (after_row any_listing) (last_user s.came) ls → FitRows user_rows s ls
unfolding FitRows
rows_several s [] left renewed fits = tt
rows_several s (l ∷ []) left renewed fits =
    let row = fits.0 in
    let last : (are_renewed s.came || (not (s.left == 1) || nat_le 2 (suc (length l.later)))) ≡ true = rw left (second (are_renewed s.came) (length l.later) renewed) in
    ((row.0, ((row.1.0.0, rw (row.1.0.1, last) refl), row.1.1)), tt)
rows_several s (l ∷ m ∷ ls) left renewed fits =
    let row = fits.0 in
    let next : Users = record { left = s.left - 1; came = s.came ++ l ∷ [] } in
    let not_last : (are_renewed s.came || (not (s.left == 1) || nat_le 2 (suc (length l.later)))) ≡ true = later_left s.left (suc (length l.later)) (are_renewed s.came) (omega (arith, left)) in
    let rest : FitRows (after_row any_listing) (last_user next.came) (m ∷ ls) = subst (λ (b : Option Listing). FitRows (after_row any_listing) b (m ∷ ls)) (sym (last_one s.came l)) fits.1 in
    ((row.0, ((row.1.0.0, rw (row.1.0.1, not_last) refl), row.1.1)), rows_several next (m ∷ ls) (omega (arith, left)) (still s.came (m ∷ ls) l renewed) rest)

none_later : (rs : List Renewal) → nat_le 1 (length rs) ≡ false → [] ≡ rs
none_later [] h = refl
none_later (r ∷ rs) h =
    let some : nat_le 1 (suc (length rs)) ≡ true = le-leb 1 (suc (length rs)) (omega arith) in
    absurd cc

none_of_two : (a b : Bool) → (a || b) ≡ false → (a ≡ false) × (b ≡ false)
none_of_two true b h = absurd cc
none_of_two false b h = (refl, h)

rows_single : (b : Option Listing) (ls : List Listing) → are_renewed ls ≡ false → FitRows (after_row any_listing) b ls → FitRows (after_row listing) b ls
unfolding FitRows
rows_single b [] none fits = tt
rows_single b (l ∷ ls) none fits =
    let each = none_of_two (is_renewed l) (are_renewed ls) none in
    let row = fits.0 in
    let alone : with_first l.user (keys_of l).0 ≡ l = ap (λ (rs : List Renewal). made l rs) (none_later l.later each.0) in
    (((row.0, row.1.1.0), alone), rows_single (Some l) ls each.1 fits.1)
  where
    made : Listing → List Renewal → Listing
    made l rs = record { user = l.user; since = l.since; key = l.key; later = rs }

-- users that have a text are written one way or the other
pub have_text : (ls : List Listing) → AreUsers ls → users.Fits ls
have_text ls are = by (are_renewed ls) refl
  where
    by : (b : Bool) → are_renewed ls ≡ b → Either b (several.Fits ls) (single.Fits ls)
    by true is = (are.count, (refl, rows_several (none_of (length ls)) ls refl is are.rows))
    by false is = (are.count, (refl, rows_single None ls is are.rows))

from_several : (s : Users) (ls : List Listing) → FitRows user_rows s ls → FitRows (after_row any_listing) (last_user s.came) ls
unfolding FitRows
from_several s [] fits = tt
from_several s (l ∷ ls) fits =
    let row = fits.0 in
    let may = and_parts (may_have (last_user s.came) (suc (length l.later))) _ row.1.0.1 in
    let next : Users = record { left = s.left - 1; came = s.came ++ l ∷ [] } in
    ((row.0, ((row.1.0.0, may.0), row.1.1)), subst (λ (b : Option Listing). FitRows (after_row any_listing) b ls) (last_one s.came l) (from_several next ls fits.1))

has_one : (b : Option Listing) → may_have b 1 ≡ true
has_one None = refl
has_one (Some l) = refl

from_single : (b : Option Listing) (ls : List Listing) → FitRows (after_row listing) b ls → FitRows (after_row any_listing) b ls
unfolding FitRows
from_single b [] fits = tt
from_single b (l ∷ ls) fits =
    let row = fits.0.0 in
    let one : (any_listing b).Fits (with_first l.user (keys_of l).0) = (row.0, ((in_range_fits w8 1 16 1 (omega arith) (omega arith) (omega arith), has_one b), (row.1, (refl, tt)))) in
    (subst (any_listing b).Fits fits.0.1 one, from_single (Some l) ls fits.1)

pub are_users : (ls : List Listing) → users.Fits ls → AreUsers ls
are_users ls fits = by (are_renewed ls) fits
  where
    by : (b : Bool) → Either b (several.Fits ls) (single.Fits ls) → AreUsers ls
    by true fits = record { count = fits.0; rows = from_several (none_of (length ls)) ls fits.1.1 }
    by false fits = record { count = fits.0; rows = from_single None ls fits.1.1 }

-- ---- one more key

pub some_is : {A : Type 0} (x y : A) → Some x ≡ Some y → x ≡ y
some_is x y e = cc

pub same_set : {X : Type 0} (xs : List X) (i : ℕ) (x : X) → x ≡ slice_index_or xs i x → slice_set xs i x ≡ xs
same_set [] i x e = refl
same_set (y ∷ ys) zero x e = ap (λ z. z ∷ ys) e
same_set (y ∷ ys) (suc i) x e = ap (λ zs. y ∷ zs) (same_set ys i x e)

more_later : (l : Listing) (rs : List Renewal) (r : Renewal) → FitRows renewals l rs → (renewals.row (record { user = l.user; since = l.since; key = l.key; later = l.later ++ rs })).Fits r → FitRows renewals l (rs ++ r ∷ [])
unfolding FitRows
more_later l [] r fits one = (subst (λ (xs : List Renewal). (renewals.row (record { user = l.user; since = l.since; key = l.key; later = xs })).Fits r) (append-nil l.later) one, tt)
more_later l (x ∷ rs) r fits one =
    (fits.0, more_later (with_later x l) rs r fits.1 (subst (λ (xs : List Renewal). (renewals.row (record { user = l.user; since = l.since; key = l.key; later = xs })).Fits r) (sym (append_assoc l.later (x ∷ []) rs)) one))

pub each_renewed : (l : Listing) (r : Renewal) → Each l → length l.later < 15 → (renewals.row l).Fits r → Each (with_later r l)
each_renewed l r each less one =
    let long : length (l.later ++ r ∷ []) ≡ length l.later + 1 = length-append l.later (r ∷ []) in
    let n = suc (length (l.later ++ r ∷ [])) in
    (each.0, ((in_range_fits w8 1 16 n (omega (arith, long, less)) (omega arith) (omega (arith, long, less)), refl), (each.1.1.0, (omega arith, more_later (with_first l.user (keys_of l).0) l.later r each.1.1.1.1 one))))

above_same : (u : ℕ) (f : Listing → Listing) (x : Listing) (xs : List Listing) → ((y : Listing) → (y.user == u) ≡ false → f y ≡ y) → u ≤ x.user → Ascends nat_cmp user_of (Some x) xs → map f xs ≡ xs
unfolding Ascends
above_same u f x [] same le up = refl
above_same u f x (y ∷ ys) same le up =
    let more = lt_from_less x.user y.user up.0 in
    let apart : y.user ≢ u = λ e. absurd (omega (arith, e, more, le)) in
    rw (same y (ne_eqb y.user u apart)) (ap (λ (zs : List Listing). y ∷ zs) (above_same u f y ys same (omega (arith, more, le)) up.1))

row_user : (os : List Listing) (u : ℕ) (l : Listing) → row_at nat_cmp user_of os u ≡ Some l → l.user ≡ u
row_user [] u l at = absurd cc
row_user (x ∷ xs) u l at = go (is_eq (nat_cmp x.user u)) refl at (row_user xs u l)
  where
    go : (b : Bool) → is_eq (nat_cmp x.user u) ≡ b → (if b then Some x else row_at nat_cmp user_of xs u) ≡ Some l → (row_at nat_cmp user_of xs u ≡ Some l → l.user ≡ u) → l.user ≡ u
    go true is found later =
        let same : x ≡ l = cc in
        ap (λ (y : Listing). y.user) (sym same) ∙ eqb-true x.user u (sym (key_test x.user u) ∙ is)
    go false is found later = later found

in_its_place : (x y : Listing) (xs : List Listing) → is_lt (nat_cmp x.user y.user) ≡ false → is_eq (nat_cmp x.user y.user) ≡ true → with_row nat_cmp user_of (x ∷ xs) y ≡ y ∷ xs
in_its_place x y xs above same = rw (above, same) refl

further_on : (x y : Listing) (xs : List Listing) → is_lt (nat_cmp x.user y.user) ≡ true → with_row nat_cmp user_of (x ∷ xs) y ≡ x ∷ with_row nat_cmp user_of xs y
further_on x y xs less = rw less refl

-- the listing of a user is another, where the others stay
in_place : (b : Option Listing) (os : List Listing) (u : ℕ) (f : Listing → Listing) (l : Listing) → ((x : Listing) → (x.user == u) ≡ false → f x ≡ x) → (f l).user ≡ u → Ascends nat_cmp user_of b os → row_at nat_cmp user_of os u ≡ Some l
    → with_row nat_cmp user_of os (f l) ≡ map f os
unfolding Ascends
in_place b [] u f l same of up at = absurd cc
in_place b (x ∷ xs) u f l same of up at =
    elim (cases_eq x.user u) [
      | inl e ↦ (
          let above : is_lt (nat_cmp x.user u) ≡ false = grind (arith, nat_tests) in
          let equal : is_eq (nat_cmp x.user u) ≡ true = key_test x.user u ∙ eq-eqb x.user u e in
          let found : Some x ≡ Some l = rw equal at at in
          let is : x ≡ l = cc in
          in_its_place x (f l) xs (ap (λ k. is_lt (nat_cmp x.user k)) of ∙ above) (ap (λ k. is_eq (nat_cmp x.user k)) of ∙ equal)
          ∙ ap (λ (y : Listing). f y ∷ xs) (sym is)
          ∙ ap (λ (ys : List Listing). f x ∷ ys) (sym (above_same u f x xs same (omega (arith, e)) up.1)))
      | inr ne ↦ (
          let other : is_eq (nat_cmp x.user u) ≡ false = key_test x.user u ∙ ne_eqb x.user u ne in
          let later : row_at nat_cmp user_of xs u ≡ Some l = rw other at at in
          elim (cases_lt x.user u) [
            | inl lt ↦
                further_on x (f l) xs (ap (λ k. is_lt (nat_cmp x.user k)) of ∙ less_from_lt x.user u lt)
                ∙ ap (λ (ys : List Listing). x ∷ ys) (in_place (Some x) xs u f l same of up.1 later)
                ∙ ap (λ (y : Listing). y ∷ map f xs) (sym (same x (ne_eqb x.user u ne)))
            | inr le ↦ (
                let above : is_lt (nat_cmp x.user u) ≡ false = grind (arith, nat_tests) in
                let none : row_at nat_cmp user_of xs u ≡ None = none_following nat_cmp user_of nat_cmp_total x xs u up.1 above in
                let clash : Some l ≡ None = sym later ∙ none in
                absurd cc)
          ])
    ]

all_found : (P : Listing → Type 0) (os : List Listing) (u : ℕ) (l : Listing) → All P os → row_at nat_cmp user_of os u ≡ Some l → P l
all_found P [] u l all at = absurd cc
all_found P (x ∷ xs) u l all at = go (is_eq (nat_cmp x.user u)) at (all_found P xs u l (All-tail P x xs all))
  where
    go : (b : Bool) → (if b then Some x else row_at nat_cmp user_of xs u) ≡ Some l → (row_at nat_cmp user_of xs u ≡ Some l → P l) → P l
    go true found later = let same : x ≡ l = cc in subst P same (All-head P x xs all)
    go false found later = later found

-- the listing of a user other than user 0 has one more key, and the others stay
module _ (s : Listing) (os : List Listing) (u n : ℕ) (k : List ℕ) (l : Listing) (are : AreUsers (s ∷ os)) (at : row_at nat_cmp user_of os u ≡ Some l) (positive : 0 < u) where
  abbrev one_more : Renewal
  one_more = record { since = n; key = k }

  key_here : with_key n u k l ≡ with_later one_more l
  key_here = rw (eq-eqb l.user u (row_user os u l at)) refl

  key_apart : (x : Listing) → (x.user == u) ≡ false → with_key n u k x ≡ x
  key_apart x apart = rw apart refl

  super_stays : with_key n u k s ≡ s
  super_stays = key_apart s (ne_eqb s.user u (λ e. absurd (omega (arith, super_is s os are, e, positive))))

  others_renewed : with_row nat_cmp user_of os (with_later one_more l) ≡ map (with_key n u k) os
  others_renewed =
      ap (with_row nat_cmp user_of os) (sym key_here)
      ∙ in_place None os u (with_key n u k) l key_apart (ap (λ (x : Listing). x.user) key_here ∙ row_user os u l at) (others_ascend s os are) at

  pub row_renewed : s ∷ with_row nat_cmp user_of os (with_later one_more l) ≡ map (with_key n u k) (s ∷ os)
  row_renewed = ap (λ (xs : List Listing). s ∷ xs) others_renewed ∙ ap (λ (x : Listing). x ∷ map (with_key n u k) os) (sym super_stays)

  pub row_fits : length l.later < 15 → (renewals.row l).Fits one_more → AreUsers (s ∷ with_row nat_cmp user_of os (with_later one_more l))
  row_fits few one =
      let each = each_renewed l one_more (all_found Each os u l (others s os are).0 at) few one in
      fits_added s os (with_later one_more l) are each (omega (arith, row_user os u l at, positive))

-- so it is where the listing is set at its place
module _ (s : Listing) (os : List Listing) (u n i : ℕ) (k : List ℕ) (are : AreUsers (s ∷ os)) (stands : Stands nat_cmp user_of os u i) (positive : 0 < u) where
  abbrev r : Renewal
  r = record { since = n; key = k }

  abbrev l : Listing → Listing
  l d = slice_index_or os i d

  pub with_row_is : (d : Listing) → slice_set os i (with_later r (l d)) ≡ with_row nat_cmp user_of os (with_later r (l d))
  with_row_is d = stands.sets (with_later r (l d)) (row_user os u (l d) (stands.found d))

  pub all_renewed : (d : Listing) → s ∷ slice_set os i (with_later r (l d)) ≡ map (with_key n u k) (s ∷ os)
  all_renewed d = ap (λ (xs : List Listing). s ∷ xs) (with_row_is d) ∙ row_renewed s os u n k (l d) are (stands.found d) positive

  pub fits_renewed : (d : Listing) → length (l d).later < 15 → (renewals.row (l d)).Fits r → AreUsers (s ∷ slice_set os i (with_later r (l d)))
  fits_renewed d few one = subst (λ (xs : List Listing). AreUsers (s ∷ xs)) (sym (with_row_is d)) (row_fits s os u n k (l d) are (stands.found d) positive few one)

-- ---- why a key isn't set

abbrev made : List Listing → List Row → Table
made us rows = record { users = us; rows = rows }

pub refused_super : (s : Listing) (os : List Listing) (rows : List Row) (u n : ℕ) → AreUsers (s ∷ os) → (s.user == u) ≡ true → key_refused (made (s ∷ os) rows) u n ≡ Some Pinned
refused_super s os rows u n are same =
    let zero : u ≡ 0 = sym (eqb-true s.user u same) ∙ super_is s os are in
    rw (same, eq-eqb u 0 zero) refl

pub refused_unlisted : (s : Listing) (os : List Listing) (rows : List Row) (u n : ℕ) → AreUsers (s ∷ os) → 0 < u → list_any (λ l. l.user == u) os ≡ false → key_refused (made (s ∷ os) rows) u n ≡ Some Unlisted
refused_unlisted s os rows u n are more none =
    let apart : (s.user == u) ≡ false = ne_eqb s.user u (λ e. absurd (omega (arith, super_is s os are, e, more))) in
    rw (apart, none) refl

pub refused_listed : (s : Listing) (os : List Listing) (rows : List Row) (u n : ℕ) (l : Listing) → AreUsers (s ∷ os) → 0 < u → row_at nat_cmp user_of os u ≡ Some l → key_refused (made (s ∷ os) rows) u n ≡ listing_refused n l
refused_listed s os rows u n l are more at =
    let apart : (s.user == u) ≡ false = ne_eqb s.user u (λ e. absurd (omega (arith, super_is s os are, e, more))) in
    let there = listed_some os u l at in
    let found = found_is os u ∙ at in
    rw (apart, there, ne_eqb u 0 (λ e. absurd (omega (arith, e, more))), found) refl

pub may_renew : (n : ℕ) (l : Listing) → listing_refused n l ≡ None → (length l.later < 15) × (last_since l.since l.later < n)
may_renew n l none = go (nat_le 15 (length l.later)) refl (nat_le n (last_since l.since l.later)) refl none
  where
    go : (a : Bool) → nat_le 15 (length l.later) ≡ a → (b : Bool) → nat_le n (last_since l.since l.later) ≡ b → (if a then Some KeysFull else if b then Some TooSoon else None) ≡ None → (length l.later < 15) × (last_since l.since l.later < n)
    go true is b late e = absurd cc
    go false is true late e = absurd cc
    go false is false late e = (omega (arith, leb-false 15 (length l.later) is), omega (arith, leb-false n (last_since l.since l.later) late))

-- ---- the beginning

pub first_users : (k : List ℕ) → key.Fits k → AreUsers (record { user = 0; since = 0; key = k; later = [] } ∷ [])
unfolding FitRows
first_users k fits = record {
  count = in_range_fits w8 1 255 1 (omega arith) (omega arith) (omega arith);
  rows =
      (((in_range_fits w8 0 63 0 (omega arith) (omega arith) (omega arith), refl), ((in_range_fits w8 1 16 1 (omega arith) (omega arith) (omega arith), refl), ((in_range_fits w32 0 0 0 (omega arith) (omega arith) (omega arith), fits), (refl, tt)))), tt);
}

pub first_fits : (k : List ℕ) → key.Fits k → table.Fits (genesis k)
unfolding FitRows
first_fits k fits = (have_text _ (first_users k fits), (in_range_fits w16 0 65535 0 (omega arith) (omega arith) (omega arith), (refl, tt)))
