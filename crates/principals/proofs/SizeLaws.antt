-- How long the text of a table is.
use Rattle.std.proofs.Common.{◌≡◌, ℕ, suc, ◌*◌, ◌≤◌, Bool, true, false, cond, List, [], ◌∷◌, ◌++◌, length, Option, Some, None, refl, ◌∙◌, arith}
use Rattle.std.specs.Prelude.{codes}
use Rattle.std.specs.Int.{Width, w8, w16, w32, byte_len}
use Rattle.std.proofs.lemmas.List.{length-append}
use Rattle.layout.specs.Format.{Format, FitRows, be, spell_rows}
use Rattle.layout.specs.Laws.{IsWide, in_range, wide8, wide16, wide32}
use Rattle.layout.specs.Sizes.{AtMost, at_most_followed, at_most_guarded, at_most_listed, at_most_listed_from, at_most_mapped, at_most_pair, at_most_raw, at_most_uint_in}
use Rattle.principals.specs.declared.table.Row.{Row}
use Rattle.principals.specs.declared.table.Renewal.{Renewal}
use Rattle.principals.specs.Table.{Listing, Table, with_later}
use Rattle.principals.specs.TableText.{Either, are_renewed, dated, key, keys, keys_of, last_user, listed_at, listing, listing_by, may_come, member_rows, none_of, renewals, several, single, table, user_rows, users, who, with_first, with_next, without_rows}

be_size : (w : Width) → IsWide w → (n : ℕ) → length (be w n) ≡ byte_len w
unfolding be
be_size w wide n = wide.len n

at_most_who : (before : Option Listing) → AtMost (who before) 1
at_most_who None = at_most_guarded _ _ _ 1 (at_most_uint_in w8 0 63 wide8)
at_most_who (Some before) = at_most_guarded _ _ _ 1 (at_most_uint_in w8 0 63 wide8)

at_most_since : (before : Option Listing) → AtMost (listed_at before) 4
at_most_since None = at_most_uint_in w32 0 0 wide32
at_most_since (Some before) = at_most_uint_in w32 1 4294967295 wide32

at_most_dated : (since : Format ℕ) → AtMost since 4 → AtMost (dated since) 60
at_most_dated since few = at_most_mapped _ _ _ 60 (at_most_pair since key 4 56 few (at_most_guarded _ _ _ 56 (at_most_raw 56)))

-- where each has one key
single_size : (l : Listing) (b : Option Listing) → (listing b).Fits l → length ((listing b).spell l) ≤ 961
single_size l b fits =
    let few = at_most_pair (who b) (dated (listed_at b)) 1 60 (at_most_who b) (at_most_dated (listed_at b) (at_most_since b)) in
    omega (arith, few.holds (l.user, (keys_of l).0) fits.0)

at_most_listing : (before : Option Listing) → AtMost (listing before) 961
at_most_listing before = record { holds = λ l fits. single_size l before fits }

at_most_renewal : (l : Listing) → AtMost (renewals.row l) 60
at_most_renewal l = at_most_dated _ (at_most_guarded _ _ _ 4 (at_most_uint_in w32 1 4294967295 wide32))

renewals_size : (l : Listing) (rs : List Renewal) → FitRows renewals l rs → length (spell_rows renewals l rs) ≤ 60 * length rs
unfolding spell_rows FitRows
renewals_size l [] fits = omega arith
renewals_size l (r ∷ rs) fits =
    omega (arith, length-append ((renewals.row l).spell r) (spell_rows renewals (with_later r l) rs), (at_most_renewal l).holds r fits.0, renewals_size (with_later r l) rs fits.1)

keys_size : (b : Option Listing) (may : ℕ → Bool) (user : ℕ) (k : Renewal × List Renewal) → (keys b may user).Fits k → length ((keys b may user).spell k) ≤ 961
keys_size b may user k fits =
    let count = (in_range w8 1 16 (suc (length k.1)) fits.0.0).1 in
    let first = (at_most_dated (listed_at b) (at_most_since b)).holds k.0 fits.1.0 in
    let rest = renewals_size (with_first user k.0) k.1 fits.1.1.1 in
    let later = spell_rows renewals (with_first user k.0) k.1 in
    omega (arith, length-append (be w8 (suc (length k.1))) ((dated (listed_at b)).spell k.0 ++ later), length-append ((dated (listed_at b)).spell k.0) later, be_size w8 wide8 (suc (length k.1)), count, first, rest)

at_most_keyed : (b : Option Listing) (may : ℕ → Bool) → AtMost (listing_by b may) 962
at_most_keyed b may = at_most_mapped _ _ _ 962 (at_most_followed (who b) (keys b may) 1 961 (at_most_who b) (λ u. record { holds = keys_size b may u }))

at_most_single : AtMost single 245056
at_most_single = at_most_listed w8 1 255 listing 961 wide8 at_most_listing

-- and where one has more than one
several_size : (us : List Listing) → several.Fits us → length (several.spell us) ≤ 245311
several_size us fits =
    (at_most_listed_from w8 1 255 user_rows (none_of (length us)) 962 wide8 (λ s. at_most_keyed (last_user s.came) (may_come s))).holds us fits

users_size : (us : List Listing) → users.Fits us → length (users.spell us) ≤ 245315
users_size us fits = by (are_renewed us) fits
  where
    by : (b : Bool) → Either b (several.Fits us) (single.Fits us) → length (cond b (codes "SPT2" ++ several.spell us) (codes "SPT1" ++ single.spell us)) ≤ 245315
    by true f = omega (arith, length-append (codes "SPT2") (several.spell us), several_size us f)
    by false f = omega (arith, length-append (codes "SPT1") (single.spell us), at_most_single.holds us f)

row_size : (t : Table) (r : Row) → length ((member_rows.row t).spell r) ≡ 10
unfolding be
row_size t r =
    length-append (be w8 r.group) (be w8 r.user ++ be w32 r.begins ++ be w32 r.until)
    ∙ omega (arith, length-append (be w8 r.user) (be w32 r.begins ++ be w32 r.until), length-append (be w32 r.begins) (be w32 r.until), be_size w8 wide8 r.group, be_size w8 wide8 r.user, be_size w32 wide32 r.begins, be_size w32 wide32 r.until)

rows_size : (t : Table) (rs : List Row) → length (spell_rows member_rows t rs) ≡ 10 * length rs
unfolding spell_rows
rows_size t [] = refl
rows_size t (r ∷ rs) = omega (arith, length-append ((member_rows.row t).spell r) (spell_rows member_rows (with_next t r) rs), row_size t r, rows_size (with_next t r) rs)

pub text_size : (t : Table) → users.Fits t.users → length t.rows ≤ 65535 → length (table.spell t) ≤ 900667
text_size t fits few =
    let rows = spell_rows member_rows (without_rows t.users) t.rows in
    let whole = length-append (users.spell t.users) (be w16 (length t.rows) ++ rows) in
    omega (arith, whole, length-append (be w16 (length t.rows)) rows, be_size w16 wide16 (length t.rows), rows_size (without_rows t.users) t.rows, users_size t.users fits, few)

-- and that it has some bytes
begun : (tag users rows : List ℕ) → 1 ≤ length tag → 1 ≤ length ((tag ++ users) ++ rows)
begun tag users rows some = omega (arith, some, length-append (tag ++ users) rows, length-append tag users)

pub text_begins : (t : Table) → 1 ≤ length (table.spell t)
text_begins t = go (are_renewed t.users) (be w16 (length t.rows) ++ spell_rows member_rows (without_rows t.users) t.rows)
  where
    go : (b : Bool) (rows : List ℕ) → 1 ≤ length (cond b (codes "SPT2" ++ several.spell t.users) (codes "SPT1" ++ single.spell t.users) ++ rows)
    go true rows = begun (codes "SPT2") (several.spell t.users) rows (omega arith)
    go false rows = begun (codes "SPT1") (single.spell t.users) rows (omega arith)
