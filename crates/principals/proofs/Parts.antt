-- Reading and writing a table by its parts.
use Rattle.std.proofs.Common.{◌≡◌, ℕ, suc, ◌<◌, Bool, List, [], ◌∷◌, ◌++◌, length, Option, Some, None, Result, Ok, Err, refl, sym, ap, ◌∙◌, append_assoc, arith}
use Rattle.std.specs.Prelude.{slice_index_or, remove, OnOk, OnErr}
use Rattle.std.specs.Int.{w8, w16, w32}
use Rattle.std.proofs.Math.Seq.{take-append_seam}
use Rattle.std.proofs.lemmas.List.{append-nil}
use Rattle.layout.specs.declared.error.ReadError.{ReadError}
use Rattle.layout.specs.Format.{Answer, ◌>>=◌, BeginsWith, be, after_row, read_rows, read_state, state_after, rows_onto, uint_in}
use Rattle.layout.specs.Laws.{in_range, onto_alike}
use Rattle.principals.specs.declared.table.Row.{Row}
use Rattle.principals.specs.declared.table.Renewal.{Renewal}
use Rattle.principals.specs.Table.{Listing, Table, with_later}
use Rattle.principals.specs.TableText.{Users, dated, keys_of, last_user, listing, listing_by, may_come, may_have, member_rows, none_of, plain_row, renewals, user_rows, users, with_first, without_rows}
use Rattle.principals.specs.Kept.{AreUsers, any_listing}

abbrev ok_of : {A : Type 0} → A → Result A ReadError
ok_of x = Ok x

ok_is : {A : Type 0} (x y : A) → ok_of x ≡ ok_of y → x ≡ y
ok_is x y e = cc

-- ---- users

pub some_users : (xs : List Listing) → AreUsers xs → 0 < length xs
some_users xs are = omega (arith, (in_range w8 1 255 (length xs) are.count).0)

pub head_off : (xs rest : List Listing) (x : Listing) → 0 < length xs → x ≡ slice_index_or xs 0 x → rest ≡ remove xs 0 → x ∷ rest ≡ xs
head_off [] rest x some is left = absurd (omega arith)
head_off (y ∷ ys) rest x some is left = ap (λ z. z ∷ rest) is ∙ ap (λ (zs : List Listing). y ∷ zs) left

listing_alike : (b c : Option Listing) (old : List ℕ) (x : Listing) → (listing b).onto old x ≡ (listing c).onto old x
listing_alike None None old x = refl
listing_alike None (Some c) old x = refl
listing_alike (Some b) None old x = refl
listing_alike (Some b) (Some c) old x = refl

-- user 0's listing, and after it the others'
single_onto : (old : List ℕ) (s : Listing) (os : List Listing) → rows_onto (after_row listing) None ((listing None).onto old s) os ≡ rows_onto (after_row listing) None old (s ∷ os)
unfolding rows_onto
single_onto old s os = onto_alike (after_row listing) (after_row listing) listing_alike None (Some s) ((listing None).onto old s) os

pub single_written : (old t1 t2 new : List ℕ) (s : Listing) (os : List Listing) (n : ℕ) → t1 ≡ old ++ be w8 n → n ≡ length (s ∷ os) → t2 ≡ (listing None).onto t1 s → new ≡ rows_onto (after_row listing) None t2 os
    → new ≡ rows_onto (after_row listing) None (old ++ be w8 (length (s ∷ os))) (s ∷ os)
single_written old t1 t2 new s os n e1 en e2 e =
    e
    ∙ ap (λ (t : List ℕ). rows_onto (after_row listing) None t os) e2
    ∙ single_onto t1 s os
    ∙ ap (λ (t : List ℕ). rows_onto (after_row listing) None t (s ∷ os)) (e1 ∙ ap (λ k. old ++ be w8 k) en)

any_alike : (b c : Option Listing) (may might : ℕ → Bool) (old : List ℕ) (x : Listing) → (listing_by b may).onto old x ≡ (listing_by c might).onto old x
any_alike None None may might old x = refl
any_alike None (Some c) may might old x = refl
any_alike (Some b) None may might old x = refl
any_alike (Some b) (Some c) may might old x = refl

several_onto : (old : List ℕ) (s : Listing) (os : List Listing) (u : Users) → rows_onto (after_row any_listing) None ((any_listing None).onto old s) os ≡ rows_onto user_rows u old (s ∷ os)
unfolding rows_onto
several_onto old s os u =
    ap (λ (t : List ℕ). rows_onto (after_row any_listing) None t os) (any_alike None (last_user u.came) (may_have None) (may_come u) old s)
    ∙ onto_alike (after_row any_listing) user_rows (λ b v text x. any_alike b (last_user v.came) (may_have b) (may_come v) text x) None (user_rows.next u s) ((user_rows.row u).onto old s) os

pub several_written : (old t1 t2 new : List ℕ) (s : Listing) (os : List Listing) (n : ℕ) → t1 ≡ old ++ be w8 n → n ≡ length (s ∷ os) → t2 ≡ (any_listing None).onto t1 s → new ≡ rows_onto (after_row any_listing) None t2 os
    → new ≡ rows_onto user_rows (none_of (length (s ∷ os))) (old ++ be w8 (length (s ∷ os))) (s ∷ os)
several_written old t1 t2 new s os n e1 en e2 e =
    e
    ∙ ap (λ (t : List ℕ). rows_onto (after_row any_listing) None t os) e2
    ∙ several_onto t1 s os (none_of (length (s ∷ os)))
    ∙ ap (λ (t : List ℕ). rows_onto user_rows (none_of (length (s ∷ os))) t (s ∷ os)) (e1 ∙ ap (λ k. old ++ be w8 k) en)

-- ---- keys of a user

-- they are written alike, whatever stands before them
pub renewals_onto : (l : Listing) (old : List ℕ) (rs : List Renewal) → rows_onto (after_row (λ _. dated (uint_in w32 1 4294967295))) None old rs ≡ rows_onto renewals l old rs
renewals_onto l old rs = onto_alike (after_row (λ _. dated (uint_in w32 1 4294967295))) renewals (λ b t text x. refl) None l old rs

-- a user and its keys, one part after the other
pub listing_written : (before : Option Listing) (may : ℕ → Bool) (old t1 t2 t3 t4 new : List ℕ) (l : Listing) (n : ℕ) → t1 ≡ old ++ be w8 l.user → t2 ≡ t1 ++ be w8 n → n ≡ suc (length l.later) → t3 ≡ t2 ++ be w32 l.since → t4 ≡ t3 ++ l.key
    → new ≡ rows_onto (after_row (λ _. dated (uint_in w32 1 4294967295))) None t4 l.later → new ≡ (listing_by before may).onto old l
listing_written before may old t1 t2 t3 t4 new l n e1 e2 en e3 e4 e = go before
  where
    text : t4 ≡ (((old ++ be w8 l.user) ++ be w8 (suc (length l.later))) ++ be w32 l.since) ++ l.key
    text =
        e4
        ∙ ap (λ (t : List ℕ). t ++ l.key) (e3 ∙ ap (λ (t : List ℕ). t ++ be w32 l.since) (e2 ∙ ap (λ (t : List ℕ). t ++ be w8 n) e1 ∙ ap (λ k. (old ++ be w8 l.user) ++ be w8 k) en))

    whole : new ≡ rows_onto renewals (with_first l.user (keys_of l).0) ((((old ++ be w8 l.user) ++ be w8 (suc (length l.later))) ++ be w32 l.since) ++ l.key) l.later
    whole = e ∙ renewals_onto (with_first l.user (keys_of l).0) t4 l.later ∙ ap (λ (t : List ℕ). rows_onto renewals (with_first l.user (keys_of l).0) t l.later) text

    go : (b : Option Listing) → new ≡ (listing_by b may).onto old l
    go None = whole
    go (Some c) = whole

later_is : (l : Listing) (rs : List Renewal) → (state_after renewals l rs).later ≡ l.later ++ rs
unfolding state_after
later_is l [] = sym (append-nil l.later)
later_is l (r ∷ rs) = later_is (with_later r l) rs ∙ append_assoc l.later (r ∷ []) rs

first_is : (l : Listing) (rs : List Renewal) → ((state_after renewals l rs).user ≡ l.user) × ((state_after renewals l rs).since ≡ l.since) × ((state_after renewals l rs).key ≡ l.key)
unfolding state_after
first_is l [] = (refl, refl, refl)
first_is l (r ∷ rs) = first_is (with_later r l) rs

abbrev pub later_in : Answer Listing → Answer (List Renewal)
later_in read = read >>= λ x. Ok (x.0.later, x.1)

keys_step : (l : Listing) → l.later ≡ [] → (read : Answer (List Renewal)) → read ≡ later_in (read >>= λ x. Ok (state_after renewals l x.0, x.1))
keys_step l none (Ok x) = ap (λ (rs : List Renewal). ok_of (rs, x.1)) (sym (later_is l x.0 ∙ ap (λ (ys : List Renewal). ys ++ x.0) none))
keys_step l none (Err e) = refl

-- the keys that were read, where the listing was filled with them
pub renewals_read : (l : Listing) (count : ℕ) (bytes : List ℕ) → l.later ≡ [] → read_rows renewals count l bytes ≡ later_in (read_state renewals count l bytes)
renewals_read l count bytes none = keys_step l none (read_rows renewals count l bytes)

abbrev with_keys : Listing → Answer (List Renewal) → Answer Listing
with_keys l read = read >>= λ x. Ok (state_after renewals l x.0, x.1)

first_kept_at : (l : Listing) (read : Answer (List Renewal)) (m : Listing) (rest : List ℕ) → with_keys l read ≡ Ok (m, rest) → (m.user ≡ l.user) × (m.since ≡ l.since) × (m.key ≡ l.key)
first_kept_at l (Ok x) m rest e =
    let pair = ok_is (state_after renewals l x.0, x.1) (m, rest) e in
    let same : state_after renewals l x.0 ≡ m = ap (λ (p : Listing × List ℕ). p.0) pair in
    rw (← same) (first_is l x.0)
first_kept_at l (Err f) m rest e = absurd cc

pub first_kept : (l : Listing) (count : ℕ) (bytes : List ℕ) (m : Listing) (rest : List ℕ) → read_state renewals count l bytes ≡ Ok (m, rest) → (m.user ≡ l.user) × (m.since ≡ l.since) × (m.key ≡ l.key)
first_kept l count bytes m rest e = first_kept_at l (read_rows renewals count l bytes) m rest e

-- ---- several users

came_is : (s : Users) (ls : List Listing) → (state_after user_rows s ls).came ≡ s.came ++ ls
unfolding state_after
came_is s [] = sym (append-nil s.came)
came_is s (l ∷ ls) = came_is (user_rows.next s l) ls ∙ append_assoc s.came (l ∷ []) ls

abbrev pub came_in : Answer Users → Answer (List Listing)
came_in read = read >>= λ x. Ok (x.0.came, x.1)

users_step : (n : ℕ) (read : Answer (List Listing)) → read ≡ came_in (read >>= λ x. Ok (state_after user_rows (none_of n) x.0, x.1))
users_step n (Ok x) = ap (λ (ls : List Listing). ok_of (ls, x.1)) (sym (came_is (none_of n) x.0))
users_step n (Err e) = refl

pub users_read : (n count : ℕ) (bytes : List ℕ) → read_rows user_rows count (none_of n) bytes ≡ came_in (read_state user_rows count (none_of n) bytes)
users_read n count bytes = users_step n (read_rows user_rows count (none_of n) bytes)

-- ---- rows of members

-- they are written alike, whatever stands before them
pub members_onto : (table : Table) (old : List ℕ) (rows : List Row) → rows_onto (after_row (λ _. plain_row)) None old rows ≡ rows_onto member_rows table old rows
members_onto table old rows = onto_alike (after_row (λ _. plain_row)) member_rows (λ b t text x. refl) None table old rows

abbrev pub made : List Listing → List Row → Table
made users rows = record { users = users; rows = rows }

state_is : (us : List Listing) (before rows : List Row) → state_after member_rows (made us before) rows ≡ made us (before ++ rows)
unfolding state_after
state_is us before [] = ap (made us) (sym (append-nil before))
state_is us before (r ∷ rows) = state_is us (before ++ r ∷ []) rows ∙ ap (made us) (append_assoc before (r ∷ []) rows)

abbrev pub rows_in : Answer Table → Answer (List Row)
rows_in read = read >>= λ x. Ok (x.0.rows, x.1)

abbrev with_state : List Listing → Answer (List Row) → Answer Table
with_state us read = read >>= λ x. Ok (state_after member_rows (without_rows us) x.0, x.1)

rows_is : (us : List Listing) (read : Answer (List Row)) → read ≡ rows_in (with_state us read)
rows_is us (Ok x) = ap (λ (t : Table). ok_of (t.rows, x.1)) (sym (state_is us [] x.0))
rows_is us (Err e) = refl

users_is : (us : List Listing) (read : Answer (List Row)) (t : Table) (rest : List ℕ) → with_state us read ≡ Ok (t, rest) → t.users ≡ us
users_is us (Ok x) t rest e =
    let pair = ok_is (state_after member_rows (without_rows us) x.0, x.1) (t, rest) e in
    ap (λ (p : Table × List ℕ). p.0.users) (sym pair) ∙ ap (λ (s : Table). s.users) (state_is us [] x.0)
users_is us (Err f) t rest e = absurd cc

-- the rows that were read, where the table was filled with them
pub rows_read : (us : List Listing) (count : ℕ) (bytes : List ℕ) → read_rows member_rows count (without_rows us) bytes ≡ rows_in (read_state member_rows count (without_rows us) bytes)
rows_read us count bytes = rows_is us (read_rows member_rows count (without_rows us) bytes)

pub users_kept : (us : List Listing) (count : ℕ) (bytes : List ℕ) (t : Table) (rest : List ℕ) → read_state member_rows count (without_rows us) bytes ≡ Ok (t, rest) → t.users ≡ us
users_kept us count bytes t rest e = users_is us (read_rows member_rows count (without_rows us) bytes) t rest e

-- ---- what is written

-- the parts of the text, one after the other
pub spelled : (old t1 t2 new : List ℕ) (us : List Listing) (rows : List Row) (m : ℕ) → t1 ≡ users.onto old us → t2 ≡ t1 ++ be w16 m → m ≡ length rows → new ≡ rows_onto (after_row (λ _. plain_row)) None t2 rows
    → new ≡ rows_onto member_rows (without_rows us) (users.onto old us ++ be w16 (length rows)) rows
spelled old t1 t2 new us rows m e1 e2 em e =
    let text : t2 ≡ users.onto old us ++ be w16 (length rows) = e2 ∙ ap (λ (t : List ℕ). t ++ be w16 m) e1 ∙ ap (λ k. users.onto old us ++ be w16 k) em in
    e ∙ members_onto (without_rows us) t2 rows ∙ ap (λ (t : List ℕ). rows_onto member_rows (without_rows us) t rows) text

pub begins_append : (text front rest : List ℕ) → text ≡ front ++ rest → BeginsWith text front
begins_append text front rest e = rw e (take-append_seam front rest)

pub on_ok : {A E : Type 0} (r : Result A E) (P Q : Type 0) → (P → Q) → OnOk r P → OnOk r Q
on_ok (Ok x) P Q f p = f p
on_ok (Err e) P Q f p = tt

pub on_err : {A E : Type 0} (r : Result A E) (P : Type 0) → P → OnErr r P
on_err (Ok x) P p = tt
on_err (Err e) P p = p
