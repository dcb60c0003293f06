-- In a table that has a text no group and user have two open rows.
use Rattle.std.proofs.Common.{◌≡◌, ℕ, ◌+◌, ◌≤◌, Bool, true, false, ◌||◌, List, [], ◌∷◌, ◌++◌, length, refl, append_assoc, arith, filter}
use Rattle.std.specs.Prelude.{◌==◌}
use Rattle.std.specs.List.{list_any}
use Rattle.std.proofs.lemmas.Bool.{eqb-true}
use Rattle.std.proofs.lemmas.List.{append-nil}
use Rattle.layout.specs.Format.{FitRows}
use Rattle.principals.specs.declared.table.Row.{Row}
use Rattle.principals.specs.Table.{Listing, Table, is_row_of, is_open}
use Rattle.principals.specs.TableText.{member_rows, may_end, table}
use Rattle.principals.proofs.Parts.{made}
use Rattle.principals.proofs.Bools.{both, not_true}

none_step : {X : Type 0} (p : X → Bool) (x : X) (xs : List X) (t : Bool) → p x ≡ t → (t || list_any p xs) ≡ false → (list_any p xs ≡ false → length (filter p xs) ≡ 0) → length (filter p (x ∷ xs)) ≡ 0
none_step p x xs true is none later = absurd cc
none_step p x xs false is none later = rw is (later none)

none_counted : {X : Type 0} (p : X → Bool) (xs : List X) → list_any p xs ≡ false → length (filter p xs) ≡ 0
none_counted p [] none = refl
none_counted p (x ∷ xs) none = none_step p x xs (p x) refl none (none_counted p xs)

more_step : {X : Type 0} (p : X → Bool) (x : X) (xs : List X) (r : X) (k : ℕ) → length (filter p (xs ++ r ∷ [])) ≡ length (filter p xs) + k → (t : Bool) → p x ≡ t → length (filter p (x ∷ (xs ++ r ∷ []))) ≡ length (filter p (x ∷ xs)) + k
more_step p x xs r k later true is = rw is (omega (arith, later))
more_step p x xs r k later false is = rw is later

one_counted : {X : Type 0} (p : X → Bool) (xs : List X) (r : X) → p r ≡ true → length (filter p (xs ++ r ∷ [])) ≡ length (filter p xs) + 1
one_counted p [] r is = rw is refl
one_counted p (x ∷ xs) r is = more_step p x xs r 1 (one_counted p xs r is) (p x) refl

other_counted : {X : Type 0} (p : X → Bool) (xs : List X) (r : X) → p r ≡ false → length (filter p (xs ++ r ∷ [])) ≡ length (filter p xs) + 0
other_counted p [] r is = rw is refl
other_counted p (x ∷ xs) r is = more_step p x xs r 0 (other_counted p xs r is) (p x) refl

-- an open row that fits is the first one of its pair that is open
free_before : (before : Table) (r : Row) → may_end before r.group r.user r.begins r.until ≡ true → (r.until == 0) ≡ true → list_any (is_open r.group r.user) before.rows ≡ false
free_before before r may still = not_true (list_any (is_open r.group r.user) before.rows) (rw still at may)

one_step : (us : List Listing) (before : List Row) (r : Row) (g u : ℕ) → may_end (made us before) r.group r.user r.begins r.until ≡ true → length (filter (is_open g u) before) ≤ 1 → (t : Bool) → is_open g u r ≡ t
    → length (filter (is_open g u) (before ++ r ∷ [])) ≤ 1
one_step us before r g u may few false is = omega (arith, other_counted (is_open g u) before r is, few)
one_step us before r g u may few true is =
    let tests = both (is_row_of g u r) (r.until == 0) is in
    let pair = both (r.group == g) (r.user == u) tests.0 in
    let of : r.group ≡ g = eqb-true r.group g pair.0 in
    let by : r.user ≡ u = eqb-true r.user u pair.1 in
    let free : list_any (is_open g u) before ≡ false = rw (of, by) at (free_before (made us before) r may tests.1) in
    omega (arith, one_counted (is_open g u) before r is, none_counted (is_open g u) before free)

one_open : (us : List Listing) (before rows : List Row) (g u : ℕ) → FitRows member_rows (made us before) rows → length (filter (is_open g u) before) ≤ 1 → length (filter (is_open g u) (before ++ rows)) ≤ 1
unfolding FitRows
one_open us before [] g u fits few = rw (append-nil before) few
one_open us before (r ∷ rows) g u fits few =
    let more = one_step us before r g u fits.0.1.1.1.1 few (is_open g u r) refl in
    rw (← append_assoc before (r ∷ []) rows) (one_open us (before ++ r ∷ []) rows g u fits.1 more)

pub at_most_one : (t : Table) → table.Fits t → (g u : ℕ) → length (filter (is_open g u) t.rows) ≤ 1
at_most_one t fits g u = one_open t.users [] t.rows g u fits.1.1.1 (omega arith)
