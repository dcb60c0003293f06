-- What operations of user 0 leave of a table of principals: who was a member at an earlier number, who is listed, and
-- by which key.
use Rattle.std.proofs.Common.{◌≡◌, ◌≢◌, ℕ, ◌<◌, ◌≤◌, List, [], ◌∷◌, ◌++◌, map, Option, Some, None, Bool, true, false, cond, refl, sym, ap, ◌∙◌, subst, inl, inr, arith}
use Rattle.std.specs.Prelude.{◌⊎◌, ◌==◌, ◌&&◌, ◌||◌, find, is_none, nat_le}
use Rattle.std.specs.List.{All, list_any}
use Rattle.std.specs.Option.{option_and_then}
use Rattle.std.specs.Ordering.{is_eq, is_lt, nat_cmp}
use Rattle.std.proofs.lemmas.Bool.{eqb-true, ne_eqb, lt-ltb, le-leb, lt-leb, leb-true, cases_Bool, and_parts, and_from, and_left, and_right, not-true, or_left, or_parts, or_right, true≢false}
use Rattle.std.proofs.lemmas.Cmp.{nat_cmp_total}
use Rattle.std.proofs.lemmas.List.Elements.{All-cons, All-nil, All-push, All-weaker}
use Rattle.layout.specs.Ascending.{with_row}
use Rattle.layout.specs.AscendingKeys.{key_test}
use Rattle.layout.specs.AscendingLaws.{all_with_row}
use Rattle.principals.specs.declared.table.Renewal.{Renewal}
use Rattle.principals.specs.declared.table.Row.{Row}
use Rattle.principals.specs.Table.{Listing, Table, counts_at, ended, genesis, is_listed, is_member, is_open, is_row_of, key_at, key_refused, key_set, listed_key_at, lists_user, user_of}
use Rattle.principals.proofs.KeyLaws.{all_set, listed_set, not_super, set_apart, set_later}
use Rattle.principals.proofs.ListedKeys.{IsBy, key_since}
use Rattle.update_cert.specs.Change.{Action, Make, Put, Remove, Link, Unlink, AddUser, AddMember, DropMember, SetKey, Change}
use Rattle.update_cert.specs.Tables.{alters, table_after, table_after_change, table_becomes, table_effect}
use Rattle.update_cert.specs.Cert.{Cert}
use Rattle.pending_list.specs.Groups.{groups, groups_at, raises_at, touches}
use Rattle.consistency_server.specs.State.{after_operation}
use Rattle.agreement.proofs.Members.{of_all}
use Rattle.agreement.proofs.Tests.{any_in}
use Rattle.honest_history.proofs.Members.{any_from, filter_same, find_some}

-- ---- what each action keeps is kept by all

module _ (holds : Table → Type 0) (user n : ℕ) (keeps : user ≡ 0 → (a : Action (List ℕ)) (t : Table) → alters n a t ≡ true → holds t → holds (table_becomes n a t)) where
  change_keeps : (c : Change (List ℕ)) (t : Table) → holds t → holds (table_after_change user n c t)
  change_keeps c t h =
      elim (cases_Bool (table_effect user n c t)) [
        | inl e ↦ (
            let parts = and_parts (user == 0) (alters n c.action t) e in
            rw e (keeps (eqb-true user 0 parts.0) c.action t parts.1 h))
        | inr e ↦ rw e h
      ]

  pub all_keep : (cs : List (Change (List ℕ))) (t : Table) → holds t → holds (table_after user n cs t)
  unfolding table_after
  all_keep [] t h = h
  all_keep (c ∷ cs) t h = all_keep cs (table_after_change user n c t) (change_keeps c t h)

-- an operation of another user leaves the table
pub others_leave : (user n : ℕ) (cs : List (Change (List ℕ))) (t : Table) → user ≢ 0 → table_after user n cs t ≡ t
others_leave user n cs t other = all_keep (λ u. u ≡ t) user n (λ e. absurd (other e)) cs t refl

-- ---- rows of members

any_same : (f g : Row → Bool) (rs : List Row) → ((r : Row) → f r ≡ g r) → list_any f rs ≡ list_any g rs
any_same f g [] h = refl
any_same f g (r ∷ rs) h = rw (h r, any_same f g rs h) refl

any_map : (f : Row → Bool) (h : Row → Row) (rs : List Row) → list_any f (map h rs) ≡ list_any (λ r. f (h r)) rs
any_map f h [] = refl
any_map f h (r ∷ rs) = ap (λ b. f (h r) || b) (any_map f h rs)

any_push : (f : Row → Bool) (rs : List Row) (r : Row) → f r ≡ false → list_any f (rs ++ r ∷ []) ≡ list_any f rs
any_push f [] r e = ap (λ b. b || false) e
any_push f (q ∷ rs) r e = ap (λ b. f q || b) (any_push f rs r e)

-- a row that ends now counts before as it did
ended_same : (n group user g u v : ℕ) (r : Row) → v < n → (is_row_of g u (ended n group user r) && counts_at v (ended n group user r)) ≡ (is_row_of g u r && counts_at v r)
ended_same n group user g u v r l = go (is_open group user r) refl
  where
    go : (b : Bool) → is_open group user r ≡ b
        → (is_row_of g u (cond b (record { group = r.group; user = r.user; begins = r.begins; until = n }) r) && counts_at v (cond b (record { group = r.group; user = r.user; begins = r.begins; until = n }) r))
        ≡ (is_row_of g u r && counts_at v r)
    go false e = refl
    go true e =
        let open_row = (and_parts (is_row_of group user r) (r.until == 0) e).1 in
        rw (open_row, ne_eqb n 0 (λ m. omega arith), lt-ltb v n l) refl

member_becomes : (n g u v : ℕ) (a : Action (List ℕ)) (t : Table) → v < n → is_member (table_becomes n a t) g u v ≡ is_member t g u v
member_becomes n g u v (Make new) t l = refl
member_becomes n g u v (Put new) t l = refl
member_becomes n g u v Remove t l = refl
member_becomes n g u v (Link entry) t l = refl
member_becomes n g u v (Unlink name) t l = refl
member_becomes n g u v (AddUser w key) t l = refl
member_becomes n g u v (SetKey w key) t l = refl
member_becomes n g u v (AddMember h w) t l =
    any_push (λ (r : Row). is_row_of g u r && counts_at v r) t.rows (record { group = h; user = w; begins = n; until = 0 })
    (and_right ((h == g) && (w == u)) _ (and_left (nat_le n v) _ (lt-leb n v l)))
member_becomes n g u v (DropMember h w) t l =
    any_map (λ (r : Row). is_row_of g u r && counts_at v r) (ended n h w) t.rows
    ∙ any_same (λ (r : Row). is_row_of g u (ended n h w r) && counts_at v (ended n h w r)) (λ (r : Row). is_row_of g u r && counts_at v r) t.rows (λ r. ended_same n h w g u v r l)

-- an operation of user 0 changes no membership at a number before its own
pub member_stays : (c : Cert) (t : Table) (g u v : ℕ) → (c.user ≡ 0 → v < c.number) → is_member (after_operation c t) g u v ≡ is_member t g u v
member_stays c t g u v below =
    all_keep (λ w. is_member w g u v ≡ is_member t g u v) c.user c.number (λ zero a w e same. member_becomes c.number g u v a w (below zero) ∙ same) c.changes t refl

-- so it changes nothing of which groups an earlier operation raises
pub groups_stay : (c : Cert) (t : Table) (v : ℕ) (d : Cert) → (c.user ≡ 0 → v < c.number) → groups_at (after_operation c t) v d ≡ groups_at t v d
groups_stay c t v d below =
    filter_same (raises_at (after_operation c t) v d) (raises_at t v d) groups
    (λ g i. ap (λ b. list_any (touches g) d.changes && b) (member_stays c t g d.user v below))

-- ---- listings

-- one more listing, of a user who has none
any_with : (f : Listing → Bool) (ls : List Listing) (new : Listing) → list_any f ls ≡ true → list_any (λ l. l.user == new.user) ls ≡ false → list_any f (with_row nat_cmp user_of ls new) ≡ true
any_with f [] new h none = cc
any_with f (l ∷ ls) new h none =
    let parts = or_parts (l.user == new.user) (list_any (λ l. l.user == new.user) ls) none in
    let other : is_eq (nat_cmp l.user new.user) ≡ false = key_test l.user new.user ∙ parts.0 in
    elim (cases_Bool (is_lt (nat_cmp l.user new.user))) [
      | inr more ↦ rw (more, other) (or_right (f new) (list_any f (l ∷ ls)) h)
      | inl less ↦ rw less (elim (cases_Bool (f l)) [
        | inl e ↦ or_left (f l) _ e
        | inr e ↦ or_right (f l) _ (any_with f ls new (let k : (f l || list_any f ls) ≡ true = h in rw e at k) parts.1)
      ])
    ]

find_with : (f : Listing → Bool) (ls : List Listing) (new : Listing) → f new ≡ false → list_any (λ l. l.user == new.user) ls ≡ false → find f (with_row nat_cmp user_of ls new) ≡ find f ls
find_with f [] new e none = rw e refl
find_with f (l ∷ ls) new e none =
    let parts = or_parts (l.user == new.user) (list_any (λ l. l.user == new.user) ls) none in
    let other : is_eq (nat_cmp l.user new.user) ≡ false = key_test l.user new.user ∙ parts.0 in
    elim (cases_Bool (is_lt (nat_cmp l.user new.user))) [
      | inl less ↦ rw less (ap (λ (o : Option Listing). cond (f l) (Some l) o) (find_with f ls new e parts.1))
      | inr more ↦ rw (more, other, e) refl
    ]

listed_becomes : (n u v : ℕ) (a : Action (List ℕ)) (t : Table) → alters n a t ≡ true → is_listed t u v ≡ true → is_listed (table_becomes n a t) u v ≡ true
listed_becomes n u v (Make new) t e h = h
listed_becomes n u v (Put new) t e h = h
listed_becomes n u v Remove t e h = h
listed_becomes n u v (Link entry) t e h = h
listed_becomes n u v (Unlink name) t e h = h
listed_becomes n u v (AddUser w key) t e h = any_with (λ l. (l.user == u) && nat_le l.since v) t.users (record { user = w; since = n; key = key; later = [] }) h (not-true (lists_user t w) e)
listed_becomes n u v (SetKey w key) t e h = listed_set n w key t u v ∙ h
listed_becomes n u v (AddMember g w) t e h = h
listed_becomes n u v (DropMember g w) t e h = h

-- who is listed by a number stays so
pub listed_stays : (c : Cert) (t : Table) (u v : ℕ) → is_listed t u v ≡ true → is_listed (after_operation c t) u v ≡ true
listed_stays c t u v h = all_keep (λ w. is_listed w u v ≡ true) c.user c.number (λ zero a w e. listed_becomes c.number u v a w e) c.changes t h

pub listed_later : (m n u : ℕ) (t : Table) → m ≤ n → is_listed t u m ≡ true → is_listed t u n ≡ true
listed_later m n u t le e =
    let r = any_in (λ (l : Listing). (l.user == u) && nat_le l.since m) t.users e in
    let p = and_parts ((r.0).user == u) (nat_le (r.0).since m) r.2 in
    let q = leb-true (r.0).since m p.1 in
    any_from (λ (l : Listing). (l.user == u) && nat_le l.since n) t.users r.0 r.1 (and_from _ _ p.0 (le-leb (r.0).since n (omega arith)))

-- ---- since when users are listed

-- each user is listed since this number or before, and its keys came by it
abbrev pub Since : ℕ → Table → Type 0
Since n t = All (IsBy n) t.users

pub since_first : (key : List ℕ) → Since 0 (genesis key)
since_first key = All-cons (IsBy 0) (record { user = 0; since = 0; key = key; later = [] }) [] (omega arith, All-nil (λ (r : Renewal). r.since ≤ 0)) (All-nil (IsBy 0))

since_becomes : (n : ℕ) (a : Action (List ℕ)) (t : Table) → Since n t → Since n (table_becomes n a t)
since_becomes n (Make new) t h = h
since_becomes n (Put new) t h = h
since_becomes n Remove t h = h
since_becomes n (Link entry) t h = h
since_becomes n (Unlink name) t h = h
since_becomes n (AddUser w key) t h = all_with_row nat_cmp user_of nat_cmp_total (IsBy n) t.users (record { user = w; since = n; key = key; later = [] }) (omega arith, All-nil (λ (r : Renewal). r.since ≤ n)) h
since_becomes n (SetKey w key) t h =
    all_set (IsBy n) n w key t.users (λ l is old. (old.0, All-push (λ (r : Renewal). r.since ≤ n) l.later (record { since = n; key = key }) old.1 (omega arith))) h
since_becomes n (AddMember g w) t h = h
since_becomes n (DropMember g w) t h = h

by_later : (l : Listing) (m n : ℕ) → m ≤ n → IsBy m l → IsBy n l
by_later l m n le by = (omega (arith, le, by.0), All-weaker (λ (r : Renewal). r.since ≤ m) (λ (r : Renewal). r.since ≤ n) (λ r k. omega (arith, le, k)) l.later by.1)

-- and after an operation since its number, where it is user 0's
pub since_after : (c : Cert) (t : Table) (m n : ℕ) → m ≤ n → (c.user ≡ 0 → c.number ≡ n) → Since m t → Since n (after_operation c t)
since_after c t m n le number h =
    all_keep (Since n) c.user c.number (λ zero a w e old. subst (λ k. Since n (table_becomes k a w)) (sym (number zero)) (since_becomes n a w old)) c.changes t (All-weaker (IsBy m) (IsBy n) (λ l k. by_later l m n le k) t.users h)

-- who is listed is so since the last number or before
pub listed_since : (n u : ℕ) (t : Table) → Since n t → lists_user t u ≡ true → is_listed t u n ≡ true
listed_since n u t h e =
    let r = any_in (λ (l : Listing). l.user == u) t.users e in
    any_from (λ (l : Listing). (l.user == u) && nat_le l.since n) t.users r.0 r.1 (and_from _ _ r.2 (le-leb (r.0).since n (of_all (IsBy n) t.users h r.0 r.1).0))

-- ---- keys

-- the key under which an operation of this user is signed, where user 0's number is this one before it
abbrev pub key_for : Table → ℕ → ℕ → Option (List ℕ)
key_for t user version = key_at user version t

-- user 0 has its key from the beginning on
pub first_key : (key : List ℕ) (v : ℕ) → key_for (genesis key) 0 v ≡ Some key
first_key key v = key_since 0 v (genesis key) (All-cons (IsBy v) (record { user = 0; since = 0; key = key; later = [] }) [] (omega arith, All-nil (λ (r : Renewal). r.since ≤ v)) (All-nil (IsBy v)))

pub key_listed : (t : Table) (u v : ℕ) (k : List ℕ) → key_for t u v ≡ Some k → lists_user t u ≡ true
key_listed t u v k h = go (find (λ l. l.user == u) t.users) refl h
  where
    go : (o : Option Listing) → find (λ l. l.user == u) t.users ≡ o → option_and_then (listed_key_at v) o ≡ Some k → lists_user t u ≡ true
    go None e m = absurd (cc m)
    go (Some l) e m = let r = find_some (λ (l : Listing). l.user == u) t.users l e in any_from (λ (l : Listing). l.user == u) t.users l r.0 r.1

-- an operation of this number leaves the keys for numbers before it, and user 0's
abbrev IsLeft : ℕ → ℕ → ℕ → Type 0
IsLeft n u v = (v < n) ⊎ (u ≡ 0)

set_becomes : (n u v w : ℕ) (key : List ℕ) (t : Table) → IsLeft n u v → is_none (key_refused t w n) ≡ true → key_at u v (key_set n w key t) ≡ key_at u v t
set_becomes n u v w key t (inl before) e = set_later n w key t u v before
set_becomes n u v w key t (inr zero) e = set_apart n w key t u v (λ same. not_super t w n e (same ∙ zero))

key_becomes : (n u v : ℕ) (k : List ℕ) (a : Action (List ℕ)) (t : Table) → IsLeft n u v → alters n a t ≡ true → key_at u v t ≡ Some k → key_at u v (table_becomes n a t) ≡ Some k
key_becomes n u v k (Make new) t left e h = h
key_becomes n u v k (Put new) t left e h = h
key_becomes n u v k Remove t left e h = h
key_becomes n u v k (Link entry) t left e h = h
key_becomes n u v k (Unlink name) t left e h = h
key_becomes n u v k (AddUser w key) t left e h =
    let none : lists_user t w ≡ false = not-true (lists_user t w) e in
    let other : (w == u) ≡ false = ne_eqb w u (λ same. true≢false (sym (key_listed t u v k h) ∙ ap (lists_user t) (sym same) ∙ none)) in
    ap (option_and_then (listed_key_at v)) (find_with (λ l. l.user == u) t.users (record { user = w; since = n; key = key; later = [] }) other none) ∙ h
key_becomes n u v k (SetKey w key) t left e h = set_becomes n u v w key t left e ∙ h
key_becomes n u v k (AddMember g w) t left e h = h
key_becomes n u v k (DropMember g w) t left e h = h

key_kept : (c : Cert) (t : Table) (u v : ℕ) (k : List ℕ) → (c.user ≡ 0 → IsLeft c.number u v) → key_for t u v ≡ Some k → key_for (after_operation c t) u v ≡ Some k
key_kept c t u v k left h = all_keep (λ w. key_for w u v ≡ Some k) c.user c.number (λ zero a w e. key_becomes c.number u v k a w (left zero) e) c.changes t h

-- an operation of user 0 leaves the keys for numbers before its own
pub key_stays : (c : Cert) (t : Table) (u v : ℕ) (k : List ℕ) → (c.user ≡ 0 → v < c.number) → key_for t u v ≡ Some k → key_for (after_operation c t) u v ≡ Some k
key_stays c t u v k below h = key_kept c t u v k (λ zero. inl (below zero)) h

-- and user 0 has one key for good
pub super_stays : (c : Cert) (t : Table) (v : ℕ) (k : List ℕ) → key_for t 0 v ≡ Some k → key_for (after_operation c t) 0 v ≡ Some k
super_stays c t v k h = key_kept c t 0 v k (λ zero. inr refl) h
