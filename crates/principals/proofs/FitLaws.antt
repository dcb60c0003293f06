-- What is changed at a number that is no less than those before still has a text.
use Rattle.std.proofs.Common.{◌≡◌, ◌≢◌, ℕ, ◌+◌, ◌-◌, ◌<◌, ◌≤◌, Bool, true, false, cond, ◌||◌, ◌⊎◌, List, [], ◌∷◌, ◌++◌, length, Option, Some, None, refl, sym, ap, subst, ◌∙◌, append_assoc, inl, inr, arith, map}
use Rattle.std.specs.Prelude.{◌==◌, is_none, is_some, nat_le, slice_index_or}
use Rattle.std.specs.Int.{w8, w16, w32}
use Rattle.std.specs.List.{All, list_any, slice_get, slice_set}
use Rattle.std.specs.Option.{option_map, option_map_or}
use Rattle.std.specs.Ordering.{nat_cmp, is_eq}
use Rattle.std.proofs.lemmas.Bool.{eq-eqb, ne_eqb, cases_eq, false≢true, le-leb, lt-ltb}
use Rattle.std.proofs.lemmas.Cmp.{nat_cmp_total}
use Rattle.std.proofs.lemmas.List.{append-nil, length-append, length-map, map-append}
use Rattle.std.proofs.lemmas.List.Elements.{All-head, All-tail}
use Rattle.std.proofs.lemmas.Option.{slice_get-map, slice_get_cases}
use Rattle.layout.specs.Format.{FitRows, uint_in}
use Rattle.layout.specs.Laws.{in_range, in_range_fits}
use Rattle.layout.specs.Ranges.{user, group, version}
use Rattle.layout.specs.Ascending.{Stands, row_at, with_row}
use Rattle.layout.specs.AscendingLaws.{row_at-with_row}
use Rattle.principals.specs.declared.table.Row.{Row}
use Rattle.principals.specs.Table.{Listing, user_of, lists_user, is_open, is_member_now, ended, key_refused, key_set, last_since, listing_refused, user_added, with_later}
use Rattle.principals.specs.TableText.{key, users, renewals, row, member_rows, last_begins, may_end, table}
use Rattle.principals.proofs.Parts.{made}
use Rattle.principals.specs.Kept.{AreUsers}
use Rattle.principals.proofs.Users.{are_users, each_new, first_stays, fits_added, found_is, have_text, listed_none, lists_is, may_renew, positive, refused_listed, refused_super, refused_unlisted, row_fits, row_renewed, with_row_is}
use Rattle.principals.proofs.MarksLaws.{others_open}

not_refused : {X : Type 0} (o : Option X) → is_none o ≡ true → o ≡ None
not_refused None e = refl
not_refused (Some x) e = absurd cc

-- ---- more users

some_either : (t : Bool) (l : Listing) (o : Option Listing) → is_some o ≡ true → is_some (cond t (Some l) o) ≡ true
some_either true l o some = refl
some_either false l o some = some

more_listed : (os : List Listing) (l : Listing) (u : ℕ) → list_any (λ x. x.user == u) os ≡ true → list_any (λ x. x.user == u) (with_row nat_cmp user_of os l) ≡ true
more_listed os l u listed =
    let some : is_some (row_at nat_cmp user_of os u) ≡ true = ap is_some (sym (found_is os u)) ∙ lists_is os u ∙ listed in
    let new = with_row nat_cmp user_of os l in
    sym (ap is_some (sym (found_is new u)) ∙ lists_is new u) ∙ ap is_some (row_at-with_row nat_cmp user_of nat_cmp_total os l u) ∙ some_either (is_eq (nat_cmp l.user u)) l (row_at nat_cmp user_of os u) some

or_more : (a b c : Bool) → (b ≡ true → c ≡ true) → (a || b) ≡ true → (a || c) ≡ true
or_more true b c more h = refl
or_more false b c more h = more h

rows_of_more : (us vs : List Listing) (before rows : List Row) → ((u : ℕ) → list_any (λ x. x.user == u) us ≡ true → list_any (λ x. x.user == u) vs ≡ true) → FitRows member_rows (made us before) rows → FitRows member_rows (made vs before) rows
unfolding FitRows
rows_of_more us vs before [] more fits = tt
rows_of_more us vs before (r ∷ rows) more fits =
    let f = fits.0 in
    ((f.0, ((f.1.0.0, more r.user f.1.0.1), f.1.1)), rows_of_more us vs (before ++ r ∷ []) rows more fits.1)

pub user_fits : (s : Listing) (os : List Listing) (rows : List Row) (l : Listing) → table.Fits (made (s ∷ os) rows) → users.Fits (s ∷ with_row nat_cmp user_of os l) → table.Fits (made (s ∷ with_row nat_cmp user_of os l) rows)
user_fits s os rows l fits new =
    (new, (fits.1.0, (refl, rows_of_more (s ∷ os) (s ∷ with_row nat_cmp user_of os l) [] rows (λ u. or_more (s.user == u) (list_any (λ x. x.user == u) os) (list_any (λ x. x.user == u) (with_row nat_cmp user_of os l)) (more_listed os l u)) fits.1.1.1)))

neither : (a b : Bool) → (a || b) ≡ false → a ≡ false
neither true b e = absurd (cc e)
neither false b e = refl

-- a user is listed that wasn't
pub listed_fits : (us : List Listing) (rows : List Row) (u n : ℕ) (k : List ℕ) → table.Fits (made us rows) → user.Fits u → version.Fits n → key.Fits k → lists_user (made us rows) u ≡ false → table.Fits (user_added n u k (made us rows))
listed_fits [] rows u n k fits by at of none = absurd (let range = in_range w8 1 255 0 (are_users [] fits.0).count in omega (arith, range.0))
listed_fits (s ∷ os) rows u n k fits by at of none =
    let l : Listing = record { user = u; since = n; key = k; later = [] } in
    let are = are_users (s ∷ os) fits.0 in
    let above = positive s os u are (neither (s.user == u) (list_any (λ x. x.user == u) os) none) in
    let text = have_text (s ∷ with_row nat_cmp user_of os l) (fits_added s os l are (each_new u n k by at of) above) in
    subst (λ (us : List Listing). table.Fits (made us rows)) (sym (first_stays s os l are above)) (user_fits s os rows l fits text)

-- ---- one more row

rows_more : (us : List Listing) (before rows : List Row) (r : Row) → FitRows member_rows (made us before) rows → (row (made us (before ++ rows))).Fits r → FitRows member_rows (made us before) (rows ++ r ∷ [])
unfolding FitRows
rows_more us before [] r fits one = (subst (λ (rs : List Row). (row (made us rs)).Fits r) (append-nil before) one, tt)
rows_more us before (x ∷ rows) r fits one =
    (fits.0, rows_more us (before ++ x ∷ []) rows r fits.1 (subst (λ (rs : List Row). (row (made us rs)).Fits r) (sym (append_assoc before (x ∷ []) rows)) one))

-- the last row begins no later than each does
last_within : (rs : List Row) (i n : ℕ) → All (λ r. r.begins ≤ n) rs → option_map_or (λ r. r.begins) (slice_get rs i) 0 ≤ n
last_within rs i n all =
    elim (slice_get_cases rs i).1 [
      | inl found ↦ rw found.2 (subst (λ (r : Row). r.begins ≤ n) found.3 (all i found.0 found.1))
      | inr past ↦ rw past.1 (omega arith)
    ]

pub member_fits : (us : List Listing) (rows : List Row) (n g u : ℕ) → table.Fits (made us rows) → length rows < 65535 → All (λ r. r.begins ≤ n) rows → group.Fits g → user.Fits u → version.Fits n → lists_user (made us rows) u ≡ true → is_member_now (made us rows) g u ≡ false
    → table.Fits (made us (rows ++ record { group = g; user = u; begins = n; until = 0 } ∷ []))
member_fits us rows n g u fits few order of by at listed free =
    let new : Row = record { group = g; user = u; begins = n; until = 0 } in
    let begins : nat_le (last_begins (made us rows)) n ≡ true = le-leb _ n (last_within rows (length rows - 1) n order) in
    let until : may_end (made us rows) g u n 0 ≡ true = rw free refl in
    let one : (row (made us rows)).Fits new = (of, ((by, listed), ((at, begins), (in_range_fits w32 0 4294967295 0 (omega arith) (omega arith) (omega arith), until)))) in
    let long : length (rows ++ new ∷ []) ≡ length rows + 1 = length-append rows (new ∷ []) in
    (fits.0, (in_range_fits w16 0 65535 (length (rows ++ new ∷ [])) (omega (arith, long, few)) (omega arith) (omega (arith, long, few)), (refl, rows_more us [] rows new fits.1.1.1 one)))

-- ---- a pair's open rows end

ended_begins : (n g u : ℕ) (r : Row) (t : Bool) → is_open g u r ≡ t → (ended n g u r).begins ≡ r.begins
ended_begins n g u r true is = rw is refl
ended_begins n g u r false is = rw is refl

last_of_ended : (n g u : ℕ) (o : Option Row) → option_map_or (λ r. r.begins) (option_map (ended n g u) o) 0 ≡ option_map_or (λ r. r.begins) o 0
last_of_ended n g u None = refl
last_of_ended n g u (Some r) = ended_begins n g u r (is_open g u r) refl

last_same : (us : List Listing) (before : List Row) (n g u : ℕ) → last_begins (made us (map (ended n g u) before)) ≡ last_begins (made us before)
last_same us before n g u =
    let e : Row → Row = ended n g u in
    ap (λ k. option_map_or (λ (r : Row). r.begins) (slice_get (map e before) (k - 1)) 0) (length-map before e)
    ∙ ap (λ (o : Option Row). option_map_or (λ (r : Row). r.begins) o 0) (slice_get-map e before (length before - 1))
    ∙ last_of_ended n g u (slice_get before (length before - 1))

apart_is : (g u : ℕ) (r : Row) → is_open g u r ≡ false → (r.until == 0) ≡ true → ((g ≢ r.group) ⊎ (u ≢ r.user))
apart_is g u r closed still =
    elim (cases_eq g r.group) [
      | inr ne ↦ inl ne
      | inl e ↦ elim (cases_eq u r.user) [
        | inr ne ↦ inr ne
        | inl k ↦ (
            let is : is_open g u r ≡ true = rw (eq-eqb r.group g (sym e), eq-eqb r.user u (sym k), still) refl in
            absurd cc)
      ]
    ]

may_same : (us : List Listing) (before : List Row) (n g u : ℕ) (r : Row) → is_open g u r ≡ false → (t : Bool) → (r.until == 0) ≡ t → may_end (made us before) r.group r.user r.begins r.until ≡ true
    → may_end (made us (map (ended n g u) before)) r.group r.user r.begins r.until ≡ true
may_same us before n g u r closed true still may =
    let may' = rw still at may in
    rw (still, others_open n g u r.group r.user before (apart_is g u r closed still)) may'
may_same us before n g u r closed false still may =
    let may' = rw still at may in
    rw still may'

row_ended : (us : List Listing) (before : List Row) (n g u : ℕ) (r : Row) → n ≢ 0 → (uint_in w32 0 4294967295).Fits n → r.begins ≤ n → (row (made us before)).Fits r → (t : Bool) → is_open g u r ≡ t → (row (made us (map (ended n g u) before))).Fits (ended n g u r)
row_ended us before n g u r positive wide le f true is =
    rw is (f.0, (f.1.0, ((f.1.1.0.0, rw (last_same us before n g u) f.1.1.0.1), (wide, rw (ne_eqb n 0 positive) (le-leb r.begins n le)))))
row_ended us before n g u r positive wide le f false is =
    rw is (f.0, (f.1.0, ((f.1.1.0.0, rw (last_same us before n g u) f.1.1.0.1), (f.1.1.1.0, may_same us before n g u r is (r.until == 0) refl f.1.1.1.1))))

rows_ended : (us : List Listing) (before rows : List Row) (n g u : ℕ) → n ≢ 0 → (uint_in w32 0 4294967295).Fits n → All (λ r. r.begins ≤ n) rows → FitRows member_rows (made us before) rows → FitRows member_rows (made us (map (ended n g u) before)) (map (ended n g u) rows)
unfolding FitRows
rows_ended us before [] n g u positive wide order fits = tt
rows_ended us before (r ∷ rows) n g u positive wide order fits =
    let e : Row → Row = ended n g u in (
      row_ended us before n g u r positive wide (All-head (λ x. x.begins ≤ n) r rows order) fits.0 (is_open g u r) refl,
      subst (λ (rs : List Row). FitRows member_rows (made us rs) (map e rows)) (map-append e before (r ∷ [])) (rows_ended us (before ++ r ∷ []) rows n g u positive wide (All-tail (λ x. x.begins ≤ n) r rows order) fits.1),
    )

pub drop_fits : (us : List Listing) (rows : List Row) (n g u : ℕ) → table.Fits (made us rows) → n ≢ 0 → (uint_in w32 0 4294967295).Fits n → All (λ r. r.begins ≤ n) rows → table.Fits (made us (map (ended n g u) rows))
drop_fits us rows n g u fits positive wide order =
    let long : length rows ≡ length (map (ended n g u) rows) = sym (length-map rows (ended n g u)) in
    (fits.0, (subst (λ k. (uint_in w16 0 65535).Fits k) long fits.1.0, (refl, rows_ended us [] rows n g u positive wide order fits.1.1.1)))

-- ---- one more key

row_renewed_fits : (s : Listing) (os : List Listing) (rows : List Row) (u n : ℕ) (k : List ℕ) (l : Listing) → (are : AreUsers (s ∷ os)) → row_at nat_cmp user_of os u ≡ Some l → 0 < u → length l.later < 15 → (renewals.row l).Fits (record { since = n; key = k })
    → table.Fits (made (s ∷ os) rows) → table.Fits (made (s ∷ with_row nat_cmp user_of os (with_later (record { since = n; key = k }) l)) rows)
row_renewed_fits s os rows u n k l are at more few one fits =
    let new = with_later (record { since = n; key = k }) l in
    user_fits s os rows new fits (have_text (s ∷ with_row nat_cmp user_of os new) (row_fits s os u n k l are at more few one))

pub renewed_fits : (s : Listing) (os : List Listing) (rows : List Row) (u n i : ℕ) (k : List ℕ) (d : Listing) → (are : AreUsers (s ∷ os)) → (stands : Stands nat_cmp user_of os u i) → (more : 0 < u) → length (slice_index_or os i d).later < 15
    → (renewals.row (slice_index_or os i d)).Fits (record { since = n; key = k }) → table.Fits (made (s ∷ os) rows) → table.Fits (made (s ∷ slice_set os i (with_later (record { since = n; key = k }) (slice_index_or os i d))) rows)
renewed_fits s os rows u n i k d are stands more few one fits =
    subst (λ (xs : List Listing). table.Fits (made (s ∷ xs) rows)) (sym (with_row_is s os u n i k are stands more d))
    (row_renewed_fits s os rows u n k (slice_index_or os i d) are (stands.found d) more few one fits)

-- a user's key is set where that isn't refused
pub set_fits : (us : List Listing) (rows : List Row) (u n : ℕ) (k : List ℕ) → table.Fits (made us rows) → version.Fits n → key.Fits k → is_none (key_refused (made us rows) u n) ≡ true → table.Fits (key_set n u k (made us rows))
set_fits [] rows u n k fits at of may = absurd (let range = in_range w8 1 255 0 (are_users [] fits.0).count in omega (arith, range.0))
set_fits (s ∷ os) rows u n k fits at of may = go (s.user == u) refl
  where
    are : AreUsers (s ∷ os)
    are = are_users (s ∷ os) fits.0

    set : (l : Listing) → 0 < u → row_at nat_cmp user_of os u ≡ Some l → table.Fits (key_set n u k (made (s ∷ os) rows))
    set l more here =
        let free : listing_refused n l ≡ None = not_refused (listing_refused n l) (sym (ap is_none (refused_listed s os rows u n l are more here)) ∙ may) in
        let room = may_renew n l free in
        let one : (renewals.row l).Fits (record { since = n; key = k }) = ((at, lt-ltb (last_since l.since l.later) n room.1), of) in
        subst (λ (us : List Listing). table.Fits (made us rows)) (row_renewed s os u n k l are here more) (row_renewed_fits s os rows u n k l are here more room.0 one fits)

    listed : 0 < u → (o : Option Listing) → row_at nat_cmp user_of os u ≡ o → table.Fits (key_set n u k (made (s ∷ os) rows))
    listed more None here =
        absurd (false≢true (sym (ap is_none (refused_unlisted s os rows u n are more (listed_none os u here))) ∙ may))
    listed more (Some l) here = set l more here

    go : (b : Bool) → (s.user == u) ≡ b → table.Fits (key_set n u k (made (s ∷ os) rows))
    go true same =
        absurd (false≢true (sym (ap is_none (refused_super s os rows u n are same)) ∙ may))
    go false apart = listed (positive s os u are apart) (row_at nat_cmp user_of os u) refl
