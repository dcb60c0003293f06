-- A later operation changes no key at an earlier number.
use Rattle.std.proofs.Common.{◌≡◌, ◌≢◌, ℕ, ◌<◌, Bool, true, false, cond, List, [], ◌∷◌, ◌++◌, Option, Some, None, refl, sym, ap, ◌∙◌, map}
use Rattle.std.specs.Prelude.{◌==◌, ◌&&◌, ◌||◌, find, is_none, is_some, nat_le, not, if◌then◌else◌}
use Rattle.std.specs.List.{All, list_any}
use Rattle.std.specs.Option.{option_and_then, option_map}
use Rattle.std.specs.Ordering.{nat_cmp, is_eq}
use Rattle.std.proofs.lemmas.Bool.{eq-eqb, eqb-true, lt-leb, ne_eqb}
use Rattle.std.proofs.lemmas.Cmp.{nat_cmp_total}
use Rattle.std.proofs.lemmas.List.Elements.{All-cons, All-head, All-nil, All-tail}
use Rattle.layout.specs.Ascending.{row_at, with_row}
use Rattle.layout.specs.AscendingKeys.{key_test}
use Rattle.layout.specs.AscendingLaws.{row_at-with_row}
use Rattle.principals.specs.declared.error.TableError.TheVariants.{Listed, Pinned, Unlisted}
use Rattle.principals.specs.declared.table.Renewal.{Renewal}
use Rattle.principals.specs.Table.{Listing, Table, key_at, key_by, key_refused, key_set, is_listed, listed_key_at, listing_of, listing_refused, lists_user, user_added, user_of, with_key, with_later}
use Rattle.principals.specs.Line.{AddMember, AddUser, DropMember, SetKey, Step, TableChange, after_step, effect, refused}
use Rattle.principals.proofs.LastKeys.{key_by_more}
use Rattle.principals.proofs.Users.{found_is, lists_is}

-- ---- one more key

same_user : (n x u : ℕ) (k : List ℕ) (l : Listing) → ((with_key n x k l).user == u) ≡ (l.user == u)
same_user n x u k l = elim (l.user == x) as (λ b. ((if b then with_later (record { since = n; key = k }) l else l).user == u) ≡ (l.user == u)) [ true ↦ refl | false ↦ refl ]

found_with : (n x u : ℕ) (k : List ℕ) (ls : List Listing) → find (λ l. l.user == u) (map (with_key n x k) ls) ≡ option_map (with_key n x k) (find (λ l. l.user == u) ls)
found_with n x u k [] = refl
found_with n x u k (l ∷ ls) =
    ap (λ b. if b then Some (with_key n x k l) else find (λ y. y.user == u) (map (with_key n x k) ls)) (same_user n x u k l)
    ∙ elim (l.user == u) as (λ b. (if b then Some (with_key n x k l) else find (λ y. y.user == u) (map (with_key n x k) ls)) ≡ option_map (with_key n x k) (if b then Some l else find (λ y. y.user == u) ls)) [
      | true ↦ refl
      | false ↦ found_with n x u k ls
    ]

kept_later : (v n : ℕ) (k : List ℕ) (before : Option (List ℕ)) (rs : List Renewal) → v < n → key_by v before (rs ++ record { since = n; key = k } ∷ []) ≡ key_by v before rs
kept_later v n k before rs lt =
    let late : nat_le n v ≡ false = lt-leb n v lt in
    key_by_more v before rs (record { since = n; key = k }) ∙ rw late refl

kept_with : (v n x : ℕ) (k : List ℕ) (l : Listing) → v < n → listed_key_at v (with_key n x k l) ≡ listed_key_at v l
kept_with v n x k l lt =
    elim (l.user == x) as (λ b. listed_key_at v (if b then with_later (record { since = n; key = k }) l else l) ≡ listed_key_at v l) [
      | true ↦ kept_later v n k (if nat_le l.since v then Some l.key else None) l.later lt
      | false ↦ refl
    ]

kept_found : (v n x : ℕ) (k : List ℕ) (o : Option Listing) → v < n → option_and_then (listed_key_at v) (option_map (with_key n x k) o) ≡ option_and_then (listed_key_at v) o
kept_found v n x k None lt = refl
kept_found v n x k (Some l) lt = kept_with v n x k l lt

pub set_later : (n x : ℕ) (k : List ℕ) (t : Table) (u v : ℕ) → v < n → key_at u v (key_set n x k t) ≡ key_at u v t
set_later n x k t u v lt = ap (option_and_then (listed_key_at v)) (found_with n x u k t.users) ∙ kept_found v n x k (listing_of u t) lt

-- a user has the keys that it had, where another one's is set
find_apart : (n x u : ℕ) (k : List ℕ) (ls : List Listing) → x ≢ u → find (λ l. l.user == u) (map (with_key n x k) ls) ≡ find (λ l. l.user == u) ls
find_apart n x u k [] apart = refl
find_apart n x u k (l ∷ ls) apart = go (l.user == u) refl (find_apart n x u k ls apart)
  where
    go : (b : Bool) → (l.user == u) ≡ b → find (λ y. y.user == u) (map (with_key n x k) ls) ≡ find (λ y. y.user == u) ls
        → find (λ y. y.user == u) (with_key n x k l ∷ map (with_key n x k) ls) ≡ find (λ y. y.user == u) (l ∷ ls)
    go true is rest =
        let other : (l.user == x) ≡ false = ne_eqb l.user x (λ e. apart (sym e ∙ eqb-true l.user u is)) in
        let same : with_key n x k l ≡ l = rw other refl in
        ap (λ (y : Listing). if y.user == u then Some y else find (λ z. z.user == u) (map (with_key n x k) ls)) same ∙ rw is refl
    go false is rest =
        ap (λ b. if b then Some (with_key n x k l) else find (λ y. y.user == u) (map (with_key n x k) ls)) (same_user n x u k l ∙ is)
        ∙ rest
        ∙ sym (ap (λ b. if b then Some l else find (λ y. y.user == u) ls) is)

pub set_apart : (n x : ℕ) (k : List ℕ) (t : Table) (u v : ℕ) → x ≢ u → key_at u v (key_set n x k t) ≡ key_at u v t
set_apart n x k t u v apart = ap (option_and_then (listed_key_at v)) (find_apart n x u k t.users apart)

-- user 0's isn't set
pub not_super : (t : Table) (x n : ℕ) → is_none (key_refused t x n) ≡ true → x ≢ 0
not_super t x n may = λ zero. go (lists_user t x) (x == 0) (eq-eqb x 0 zero) may
  where
    go : (a b : Bool) → b ≡ true → is_none (if not a then Some Unlisted else if b then Some Pinned else option_and_then (listing_refused n) (listing_of x t)) ≡ true → ⊥
    go false b is may = absurd cc
    go true true is may = absurd cc
    go true false is may = absurd cc

-- who is listed, and since when, stays
any_with : (n x : ℕ) (k : List ℕ) (f : Listing → Bool) (ls : List Listing) → ((l : Listing) → f (with_key n x k l) ≡ f l) → list_any f (map (with_key n x k) ls) ≡ list_any f ls
any_with n x k f [] same = refl
any_with n x k f (l ∷ ls) same = ap (λ b. b || list_any f (map (with_key n x k) ls)) (same l) ∙ ap (λ b. f l || b) (any_with n x k f ls same)

same_since : (n x v : ℕ) (k : List ℕ) (l : Listing) → nat_le (with_key n x k l).since v ≡ nat_le l.since v
same_since n x v k l = elim (l.user == x) as (λ b. nat_le (if b then with_later (record { since = n; key = k }) l else l).since v ≡ nat_le l.since v) [ true ↦ refl | false ↦ refl ]

pub lists_set : (n x : ℕ) (k : List ℕ) (t : Table) (u : ℕ) → lists_user (key_set n x k t) u ≡ lists_user t u
lists_set n x k t u = any_with n x k (λ l. l.user == u) t.users (same_user n x u k)

pub listed_set : (n x : ℕ) (k : List ℕ) (t : Table) (u v : ℕ) → is_listed (key_set n x k t) u v ≡ is_listed t u v
listed_set n x k t u v =
    any_with n x k (λ l. (l.user == u) && nat_le l.since v) t.users
    (λ l. ap (λ b. b && nat_le (with_key n x k l).since v) (same_user n x u k l) ∙ ap (λ b. (l.user == u) && b) (same_since n x v k l))

-- what holds of each listing, if it holds of one with one more key
pub all_set : (P : Listing → Type 0) (n x : ℕ) (k : List ℕ) (ls : List Listing) → ((l : Listing) → (l.user == x) ≡ true → P l → P (with_later (record { since = n; key = k }) l)) → All P ls → All P (map (with_key n x k) ls)
all_set P n x k [] more all = All-nil P
all_set P n x k (l ∷ ls) more all =
    All-cons P (with_key n x k l) (map (with_key n x k) ls) (go (l.user == x) refl) (all_set P n x k ls more (All-tail P l ls all))
  where
    go : (b : Bool) → (l.user == x) ≡ b → P (if b then with_later (record { since = n; key = k }) l else l)
    go true is = more l is (All-head P l ls all)
    go false is = All-head P l ls all

-- ---- one more user

not_there : (o : Option Listing) (b : Bool) → is_some o ≡ b → b ≡ false → None ≡ o
not_there None b is none = refl
not_there (Some l) b is none = absurd cc

new_late : (v n x : ℕ) (k : List ℕ) → v < n → listed_key_at v (record { user = x; since = n; key = k; later = [] }) ≡ None
new_late v n x k lt =
    let late : nat_le n v ≡ false = lt-leb n v lt in
    rw late refl

pub add_later : (n x : ℕ) (k : List ℕ) (t : Table) (u v : ℕ) → v < n → lists_user t x ≡ false → key_at u v (user_added n x k t) ≡ key_at u v t
add_later n x k t u v lt out =
    let new : Listing = record { user = x; since = n; key = k; later = [] } in
    let after = found_is (with_row nat_cmp user_of t.users new) u ∙ row_at-with_row nat_cmp user_of nat_cmp_total t.users new u in
    ap (option_and_then (listed_key_at v)) after ∙ go (is_eq (nat_cmp x u)) refl
  where
    go : (b : Bool) → is_eq (nat_cmp x u) ≡ b → option_and_then (listed_key_at v) (cond b (Some (record { user = x; since = n; key = k; later = [] })) (row_at nat_cmp user_of t.users u)) ≡ key_at u v t
    go false other = ap (option_and_then (listed_key_at v)) (sym (found_is t.users u))
    go true same =
        let is : x ≡ u = eqb-true x u (sym (key_test x u) ∙ same) in
        let none = not_there (find (λ l. l.user == x) t.users) (list_any (λ l. l.user == x) t.users) (lists_is t.users x) out in
        new_late v n x k lt ∙ ap (option_and_then (listed_key_at v)) (none ∙ ap (λ (w : ℕ). find (λ l. l.user == w) t.users) is)

-- ---- a step

either_key : (u v : ℕ) (b : Bool) (x y : Table) → (b ≡ true → key_at u v x ≡ key_at u v y) → key_at u v (if b then x else y) ≡ key_at u v y
either_key u v true x y same = same refl
either_key u v false x y same = refl

later_change : (n : ℕ) (c : TableChange) (t : Table) (u v : ℕ) → v < n → is_none (refused n c t) ≡ true → key_at u v (effect n c t) ≡ key_at u v t
later_change n (AddUser x k) t u v lt may = go (lists_user t x) refl may
  where
    go : (b : Bool) → lists_user t x ≡ b → is_none (if b then Some Listed else None) ≡ true → key_at u v (user_added n x k t) ≡ key_at u v t
    go true is listed = absurd cc
    go false is _ = add_later n x k t u v lt is
later_change n (AddMember g w) t u v lt may = refl
later_change n (DropMember g w) t u v lt may = refl
later_change n (SetKey x k) t u v lt may = set_later n x k t u v lt

pub later_keys : (s : Step) (t : Table) (u v : ℕ) → v < s.number → key_at u v (after_step s t) ≡ key_at u v t
later_keys s t u v lt = either_key u v (is_none (refused s.number s.change t)) (effect s.number s.change t) t (later_change s.number s.change t u v lt)
