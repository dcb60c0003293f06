-- What an operation of user 0 leaves of a table of principals: who was a member at its number before.
use Rattle.std.proofs.Common.{◌≡◌, ℕ, ◌<◌, ◌≤◌, List, [], ◌∷◌, ◌++◌, Option, Some, Bool, true, false, refl, ap, ◌∙◌, inl, inr, arith}
use Rattle.std.specs.Prelude.{◌==◌, ◌&&◌, ◌||◌, map, nat_le, if◌then◌else◌, not}
use Rattle.std.specs.List.{list_any}
use Rattle.std.proofs.lemmas.Bool.{ne_eqb, lt-ltb, le-ltb, le-leb, lt-leb, cases_Bool, false≢true, and_parts, and_left, and_right, not-true, or_cases, or_left, or_parts, or_right}
use Rattle.principals.specs.declared.table.Row.{Row}
use Rattle.principals.specs.Table.{Listing, Table, counts_at, ended, is_member, is_member_now, is_open, is_row_of, member_added, member_dropped, user_added, key_set, is_listed, lists_user, user_of}
use Rattle.principals.proofs.KeyLaws.{listed_set}
use Rattle.update_cert.specs.Change.{Action, Make, Put, Remove, Link, Unlink, AddUser, AddMember, DropMember, SetKey, Change}
use Rattle.update_cert.specs.World.{Actor, Content, Principals, action_fits, becomes, content_after, fits, has_effect, permitted, is_table}
use Rattle.agreement.proofs.Members.{In, in-append, in-map}
use Rattle.std.specs.Ordering.{is_eq, is_lt, nat_cmp}
use Rattle.layout.specs.Ascending.{with_row}
use Rattle.layout.specs.AscendingKeys.{key_test}

pub any_same : {A : Type 0} (f g : A → Bool) (xs : List A) → ((x : A) → In x xs → f x ≡ g x) → list_any f xs ≡ list_any g xs
any_same f g [] h = refl
any_same f g (x ∷ xs) h =
    let ih = any_same f g xs (λ y i. h y (inr i)) in
    ap (λ b. b || list_any f xs) (h x (inl refl)) ∙ ap (λ b. g x || b) ih

any_push : {A : Type 0} (f : A → Bool) (xs : List A) (y : A) → f y ≡ false → list_any f (xs ++ y ∷ []) ≡ list_any f xs
any_push f [] y e = ap (λ b. b || false) e
any_push f (x ∷ xs) y e = ap (λ b. f x || b) (any_push f xs y e)

any_map : {A : Type 0} (f : A → Bool) (h : A → A) (xs : List A) → list_any f (map h xs) ≡ list_any (λ x. f (h x)) xs
any_map f h [] = refl
any_map f h (x ∷ xs) = ap (λ b. f (h x) || b) (any_map f h xs)

-- all numbers in the rows are at most this one
pub record UpTo (n : ℕ) (t : Table) : Type 0 where
  pub rows : (r : Row) → In r t.rows → (r.begins ≤ n) × (r.until ≤ n)

-- what an operation of user 0 of this number makes of a table
pub record Grows (n : ℕ) (t u : Table) : Type 0 where
  pub member_same : (group user v : ℕ) → v < n → is_member u group user v ≡ is_member t group user v
  pub listed_same : (user v : ℕ) → v < n → is_listed u user v ≡ is_listed t user v
  pub bounded : (k : ℕ) → k ≤ n → UpTo k t → UpTo n u

row_now : (group user n : ℕ) (r : Row) → r.begins ≤ n → r.until ≤ n → (is_row_of group user r && counts_at n r) ≡ is_open group user r
row_now group user n r b e = rw (le-leb r.begins n b, le-ltb n r.until e) (ap (λ c. is_row_of group user r && c) (or_false (r.until == 0)))
  where
    or_false : (b : Bool) → (b || false) ≡ b
    or_false true = refl
    or_false false = refl

-- at the number of user 0's last operation a member is one now
pub member_now : (t : Table) (n : ℕ) → UpTo n t → (group user : ℕ) → is_member t group user n ≡ is_member_now t group user
member_now t n h group user =
    any_same (λ r. is_row_of group user r && counts_at n r) (is_open group user) t.rows
    (λ r i. row_now group user n r (h.rows r i).0 (h.rows r i).1)

-- who is listed by a number is listed
pub listed_some : (t : Table) (user v : ℕ) → is_listed t user v ≡ true → lists_user t user ≡ true
listed_some t user v h = go t.users h
  where
    go : (ls : List Listing) → list_any (λ (l : Listing). (l.user == user) && nat_le l.since v) ls ≡ true → list_any (λ (l : Listing). l.user == user) ls ≡ true
    go [] h = h
    go (l ∷ ls) h =
        elim (or_cases ((l.user == user) && nat_le l.since v) (list_any (λ (l : Listing). (l.user == user) && nat_le l.since v) ls) h) [
          | inl k ↦ or_left (l.user == user) _ (and_parts (l.user == user) (nat_le l.since v) k).0
          | inr k ↦ or_right (l.user == user) _ (go ls k)
        ]

pub grows_same : (n : ℕ) (t : Table) → Grows n t t
grows_same n t =
    record {
      member_same = λ g u v l. refl;
      listed_same = λ u v l. refl;
      bounded = λ k l h. record { rows = λ r i. (let b = h.rows r i in (omega arith, omega arith)) };
    }

pub grows_more : (n : ℕ) (t u w : Table) → Grows n t u → Grows n u w → Grows n t w
grows_more n t u w a b =
    record {
      member_same = λ group user v l. b.member_same group user v l ∙ a.member_same group user v l;
      listed_same = λ user v l. b.listed_same user v l ∙ a.listed_same user v l;
      bounded = λ k l h. b.bounded n (omega arith) (a.bounded k l h);
    }

-- a new row among others, none of which has its key
any_with_row : (f : Listing → Bool) (ls : List Listing) (new : Listing) → f new ≡ false → list_any (λ l. l.user == new.user) ls ≡ false → list_any f (with_row nat_cmp user_of ls new) ≡ list_any f ls
any_with_row f [] new e none = ap (λ b. b || false) e
any_with_row f (l ∷ ls) new e none =
    let parts = or_parts (l.user == new.user) (list_any (λ l. l.user == new.user) ls) none in
    let other : is_eq (nat_cmp l.user new.user) ≡ false = key_test l.user new.user ∙ parts.0 in
    elim (cases_Bool (is_lt (nat_cmp l.user new.user))) [
      | inl less ↦ rw less (ap (λ b. f l || b) (any_with_row f ls new e parts.1))
      | inr more ↦ rw (more, other) (ap (λ b. b || (f l || list_any f ls)) e)
    ]

grows_user : (n user : ℕ) (key : List ℕ) (t : Table) → lists_user t user ≡ false → Grows n t (user_added n user key t)
grows_user n user key t none =
    record {
      member_same = λ g u v l. refl;
      listed_same = λ u v l.
          any_with_row (λ l. (l.user == u) && nat_le l.since v) t.users (record { user = user; since = n; key = key; later = [] }) (and_right (user == u) (nat_le n v) (lt-leb n v l)) none;
      bounded = λ k l h. record { rows = λ r i. (let b = h.rows r i in (omega arith, omega arith)) };
    }

grows_set : (n user : ℕ) (key : List ℕ) (t : Table) → Grows n t (key_set n user key t)
grows_set n user key t =
    record {
      member_same = λ g u v l. refl;
      listed_same = λ u v l. listed_set n user key t u v;
      bounded = λ k l h. record { rows = λ r i. (let b = h.rows r i in (omega arith, omega arith)) };
    }

grows_member : (n group user : ℕ) (t : Table) → Grows n t (member_added n group user t)
grows_member n group user t =
    record {
      member_same = λ g u v l.
          any_push (λ (r : Row). is_row_of g u r && counts_at v r) t.rows (record { group = group; user = user; begins = n; until = 0 })
          (and_right ((group == g) && (user == u)) _ (and_left (nat_le n v) _ (lt-leb n v l)));
      listed_same = λ u v l. refl;
      bounded = λ k l h. record {
        rows = λ r i.
            (elim (in-append r t.rows (record { group = group; user = user; begins = n; until = 0 } ∷ []) i) [
              | inl j ↦ (let b = h.rows r j in (omega arith, omega arith))
              | inr j ↦ elim j [
                | inl e ↦ (
                    let b = ap (λ (r : Row). r.begins) e in
                    let c = ap (λ (r : Row). r.until) e in
                    (omega arith, omega arith))
                | inr e ↦ absurd e
              ]
            ]);
      };
    }

-- a row that ends now was open before
ended_same : (n group user g u v : ℕ) (r : Row) → v < n → (is_row_of g u (ended n group user r) && counts_at v (ended n group user r)) ≡ (is_row_of g u r && counts_at v r)
ended_same n group user g u v r l = go (is_open group user r) refl
  where
    go : (b : Bool) → is_open group user r ≡ b
        → (is_row_of g u (if b then record { group = r.group; user = r.user; begins = r.begins; until = n } else r) && counts_at v (if b then record { group = r.group; user = r.user; begins = r.begins; until = n } else r))
        ≡ (is_row_of g u r && counts_at v r)
    go false e = refl
    go true e =
        let open_row = (and_parts (is_row_of group user r) (r.until == 0) e).1 in
        rw (open_row, ne_eqb n 0 (λ m. omega arith), lt-ltb v n l)

ended_bound : (n group user k : ℕ) (q : Row) → k ≤ n → q.begins ≤ k → q.until ≤ k → ((ended n group user q).begins ≤ n) × ((ended n group user q).until ≤ n)
ended_bound n group user k q l b e = go (is_open group user q)
  where
    go : (c : Bool) → ((if c then record { group = q.group; user = q.user; begins = q.begins; until = n } else q).begins ≤ n) × ((if c then record { group = q.group; user = q.user; begins = q.begins; until = n } else q).until ≤ n)
    go true = (omega arith, omega arith)
    go false = (omega arith, omega arith)

grows_drop : (n group user : ℕ) (t : Table) → Grows n t (member_dropped n group user t)
grows_drop n group user t =
    record {
      member_same = λ g u v l.
          any_map (λ (r : Row). is_row_of g u r && counts_at v r) (ended n group user) t.rows
          ∙ any_same (λ (r : Row). is_row_of g u (ended n group user r) && counts_at v (ended n group user r))
          (λ (r : Row). is_row_of g u r && counts_at v r) t.rows (λ r i. ended_same n group user g u v r l);
      listed_same = λ u v l. refl;
      bounded = λ k l h. record {
        rows = λ r i.
            (let (q, j, e) = in-map (ended n group user) t.rows r i in
            let b = h.rows q j in
            let c = ended_bound n group user k q l b.0 b.1 in
            let d = ap (λ (r : Row). r.begins) e in
            let f = ap (λ (r : Row). r.until) e in
            (omega arith, omega arith));
      };
    }

-- ---- where the table stands

pub without_effect : (a : Actor) (c : Change Content) (x : Option Content) → has_effect a c x ≡ false → content_after a c x ≡ x
unfolding content_after
without_effect a c x e = rw e refl

with_effect : (a : Actor) (c : Change Content) (x : Option Content) → has_effect a c x ≡ true → content_after a c x ≡ becomes a.number c.action x
unfolding content_after
with_effect a c x e = rw e refl

table_becomes : (actor : Actor) (n p i : ℕ) (t : Table) (a : Action Content) → action_fits actor p i a (Some (Principals t)) ≡ true
    → (w : Table) × (becomes n a (Some (Principals t)) ≡ Some (Principals w)) × Grows n t w
table_becomes actor n p i t (Make new) h = absurd (false≢true h)
table_becomes actor n p i t (Put new) h = absurd (false≢true h)
table_becomes actor n p i t Remove h = absurd (false≢true h)
table_becomes actor n p i t (Link entry) h = absurd (false≢true h)
table_becomes actor n p i t (Unlink name) h = absurd (false≢true h)
table_becomes actor n p i t (AddUser v key) h = (user_added n v key t, refl, grows_user n v key t (not-true (lists_user t v) (and_parts (is_table p i) (not (lists_user t v)) h).1))
table_becomes actor n p i t (AddMember g v) h = (member_added n g v t, refl, grows_member n g v t)
table_becomes actor n p i t (DropMember g v) h = (member_dropped n g v t, refl, grows_drop n g v t)
table_becomes actor n p i t (SetKey v key) h = (key_set n v key t, refl, grows_set n v key t)

does_fit : (a : Actor) (c : Change Content) (x : Option Content) → has_effect a c x ≡ true → fits a c x ≡ true
unfolding has_effect
does_fit a c x h = (and_parts (permitted a c) (fits a c x) h).1

-- a change of what is a table leaves one
pub table_stays : (a : Actor) (c : Change Content) (t : Table) → (w : Table) × (content_after a c (Some (Principals t)) ≡ Some (Principals w)) × Grows a.number t w
table_stays a c t =
    elim (cases_Bool (has_effect a c (Some (Principals t)))) [
      | inr f ↦ (t, without_effect a c (Some (Principals t)) f, grows_same a.number t)
      | inl e ↦ (
          let k = table_becomes a a.number c.principal c.i_number t c.action (does_fit a c (Some (Principals t)) e) in
          (k.0, with_effect a c (Some (Principals t)) e ∙ k.1, k.2))
    ]
