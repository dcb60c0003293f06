-- Which keys a table tells of a user: at a number of user 0's, and after all of user 0's operations.
use Rattle.std.proofs.Common.{◌≡◌, ℕ, ◌≤◌, Bool, true, false, List, [], ◌∷◌, Option, Some, None, refl, sym, ap, subst}
use Rattle.std.specs.Prelude.{◌==◌, find, nat_le, if◌then◌else◌}
use Rattle.std.specs.List.{All}
use Rattle.std.specs.Option.{option_and_then, option_map}
use Rattle.std.specs.Ordering.{nat_cmp}
use Rattle.std.proofs.lemmas.Bool.{eqb-true, le-leb}
use Rattle.std.proofs.lemmas.Cmp.{nat_cmp_total}
use Rattle.std.proofs.lemmas.List.Elements.{All-head, All-nil, All-push, All-tail}
use Rattle.layout.specs.AscendingLaws.{all_with_row}
use Rattle.layout.specs.Types.{Key, User, Version}
use Rattle.principals.specs.declared.table.Renewal.{Renewal}
use Rattle.principals.specs.Table.{Listing, Table, key_at, key_by, key_of, key_set, last_key, listed_key_at, listing_of, user_added, user_of, with_later}
use Rattle.principals.proofs.KeyLaws.{all_set}

-- ---- what all keys of a listing are

-- so is the last one
pub last_has : (P : Key → Type 0) (key : Key) (rs : List Renewal) → P key → All (λ r. P r.key) rs → P (last_key key rs)
last_has P key [] first all = first
last_has P key (r ∷ rs) first all = last_has P r.key rs (All-head (λ (x : Renewal). P x.key) r rs all) (All-tail (λ (x : Renewal). P x.key) r rs all)

by_has : (P : Key → Type 0) (v : ℕ) (before : Option Key) (rs : List Renewal) → ((j : Key) → before ≡ Some j → P j) → All (λ r. P r.key) rs → (k : Key) → key_by v before rs ≡ Some k → P k
by_has P v before [] one all k at = one k at
by_has P v before (r ∷ rs) one all k at =
    by_has P v (if nat_le r.since v then Some r.key else before) rs (go (nat_le r.since v)) (All-tail (λ (x : Renewal). P x.key) r rs all) k at
  where
    go : (b : Bool) → (j : Key) → (if b then Some r.key else before) ≡ Some j → P j
    go true j e = let same : r.key ≡ j = cc in subst P same (All-head (λ (x : Renewal). P x.key) r rs all)
    go false j e = one j e

-- and so is that of a number
pub listed_has : (P : Key → Type 0) (v : ℕ) (l : Listing) → P l.key → All (λ r. P r.key) l.later → (k : Key) → listed_key_at v l ≡ Some k → P k
listed_has P v l first all k at = by_has P v (if nat_le l.since v then Some l.key else None) l.later (go (nat_le l.since v)) all k at
  where
    go : (b : Bool) → (j : Key) → (if b then Some l.key else None) ≡ Some j → P j
    go true j e = let same : l.key ≡ j = cc in subst P same first
    go false j e = absurd cc

-- each key of a listing is one that the user may have
abbrev pub EachKey : (User → Key → Type 0) → Listing → Type 0
EachKey P l = P l.user l.key × All (λ r. P l.user r.key) l.later

listing_has : (Q : Listing → Type 0) (u : User) (ls : List Listing) (l : Listing) → All Q ls → find (λ x. x.user == u) ls ≡ Some l → Q l × (l.user ≡ u)
listing_has Q u [] l all found = absurd cc
listing_has Q u (x ∷ xs) l all found = go (x.user == u) refl found (listing_has Q u xs l (All-tail Q x xs all))
  where
    go : (b : Bool) → (x.user == u) ≡ b → (if b then Some x else find (λ y. y.user == u) xs) ≡ Some l → (find (λ y. y.user == u) xs ≡ Some l → Q l × (l.user ≡ u)) → Q l × (l.user ≡ u)
    go true is here later = let same : x ≡ l = cc in subst (λ (y : Listing). Q y × (y.user ≡ u)) same (All-head Q x xs all, eqb-true x.user u is)
    go false is here later = later here

module _ (P : User → Key → Type 0) (u : User) (t : Table) (k : Key) (each : All (EachKey P) t.users) where
  -- so is the one that is told of the user
  pub key_of_has : key_of u t ≡ Some k → P u k
  key_of_has told = go (listing_of u t) refl told
    where
      go : (o : Option Listing) → listing_of u t ≡ o → option_map (λ l. last_key l.key l.later) o ≡ Some k → P u k
      go None found told = absurd cc
      go (Some l) found told =
          let has = listing_has (EachKey P) u t.users l each found in
          let last : last_key l.key l.later ≡ k = cc in
          subst (λ (w : User). P w k) has.1 (subst (P l.user) last (last_has (P l.user) l.key l.later has.0.0 has.0.1))

  pub key_at_has : (v : Version) → key_at u v t ≡ Some k → P u k
  key_at_has v told = go (listing_of u t) refl told
    where
      go : (o : Option Listing) → listing_of u t ≡ o → option_and_then (listed_key_at v) o ≡ Some k → P u k
      go None found told = absurd cc
      go (Some l) found told =
          let has = listing_has (EachKey P) u t.users l each found in
          subst (λ (w : User). P w k) has.1 (listed_has (P l.user) v l has.0.0 has.0.1 k told)

module _ (P : User → Key → Type 0) (n : Version) (u : User) (k : Key) (t : Table) (may : P u k) (each : All (EachKey P) t.users) where
  pub each_added : All (EachKey P) (user_added n u k t).users
  each_added = all_with_row nat_cmp user_of nat_cmp_total (EachKey P) t.users (record { user = u; since = n; key = k; later = [] }) (may, All-nil (λ (r : Renewal). P u r.key)) each

  renewed : (l : Listing) → (l.user == u) ≡ true → EachKey P l → EachKey P (with_later (record { since = n; key = k }) l)
  renewed l is old =
      (old.0, All-push (λ (r : Renewal). P l.user r.key) l.later (record { since = n; key = k }) old.1 (subst (λ (w : User). P w k) (sym (eqb-true l.user u is)) may))

  pub each_set : All (EachKey P) (key_set n u k t).users
  each_set = all_set (EachKey P) n u k t.users renewed each

-- who has a key at a number has a last one
pub has_last : (u v : ℕ) (t : Table) (k : Key) → key_at u v t ≡ Some k → (j : Key) × (key_of u t ≡ Some j)
has_last u v t k told = go (listing_of u t) refl told
  where
    go : (o : Option Listing) → listing_of u t ≡ o → option_and_then (listed_key_at v) o ≡ Some k → (j : Key) × (key_of u t ≡ Some j)
    go None found told = absurd cc
    go (Some l) found told = (last_key l.key l.later, ap (option_map (λ (x : Listing). last_key x.key x.later)) found)

-- ---- keys that came by a number

-- a user's keys came with this number or before
abbrev pub IsBy : ℕ → Listing → Type 0
IsBy v l = (l.since ≤ v) × All (λ r. r.since ≤ v) l.later

by_last : (v : ℕ) (k : Key) (rs : List Renewal) → All (λ r. r.since ≤ v) rs → key_by v (Some k) rs ≡ Some (last_key k rs)
by_last v k [] all = refl
by_last v k (r ∷ rs) all =
    let late : nat_le r.since v ≡ true = le-leb r.since v (All-head (λ (x : Renewal). x.since ≤ v) r rs all) in
    rw late (by_last v r.key rs (All-tail (λ (x : Renewal). x.since ≤ v) r rs all))

listed_last : (v : ℕ) (l : Listing) → IsBy v l → listed_key_at v l ≡ Some (last_key l.key l.later)
listed_last v l by =
    let first : nat_le l.since v ≡ true = le-leb l.since v by.0 in
    rw first (by_last v l.key l.later by.1)

found_by : (u v : ℕ) (ls : List Listing) → All (IsBy v) ls
    → option_and_then (listed_key_at v) (find (λ l. l.user == u) ls) ≡ option_map (λ l. last_key l.key l.later) (find (λ l. l.user == u) ls)
found_by u v [] all = refl
found_by u v (l ∷ ls) all = go (l.user == u) (found_by u v ls (All-tail (IsBy v) l ls all))
  where
    go : (t : Bool) → option_and_then (listed_key_at v) (find (λ l. l.user == u) ls) ≡ option_map (λ l. last_key l.key l.later) (find (λ l. l.user == u) ls)
        → option_and_then (listed_key_at v) (if t then Some l else find (λ l. l.user == u) ls) ≡ option_map (λ l. last_key l.key l.later) (if t then Some l else find (λ l. l.user == u) ls)
    go true later = listed_last v l (All-head (IsBy v) l ls all)
    go false later = later

-- where all keys came with a number or before, those of it are those after all operations
pub key_since : (u v : ℕ) (t : Table) → All (IsBy v) t.users → key_at u v t ≡ key_of u t
key_since u v t all = found_by u v t.users all
