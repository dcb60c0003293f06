-- Membership at each version, in tables that come about by changes of one line.
use Rattle.std.proofs.Common.{◌≡◌, ℕ, ◌<◌, ◌≤◌, Bool, true, false, ◌&&◌, List, [], ◌∷◌, ◌++◌, refl, ap, ◌∙◌, inl, inr, arith, map}
use Rattle.std.specs.Prelude.{◌==◌, nat_lt, nat_le, is_none, if◌then◌else◌}
use Rattle.std.specs.List.{list_any}
use Rattle.std.proofs.lemmas.Bool.{lt-ltb, le-ltb, le-leb, lt-leb, cases_lt}
use Rattle.std.proofs.lemmas.List.Folds.{list_any-append}
use Rattle.principals.specs.declared.table.Row.{Row}
use Rattle.principals.specs.Table.{Table, genesis, is_row_of, is_open, counts_at, is_member, is_member_now, ended}
use Rattle.principals.specs.Line.{TableChange, AddUser, AddMember, DropMember, SetKey, Step, effect, refused, after_step, after_line, InOrder, up_to}
use Rattle.principals.proofs.Bools.{both, and_false, or_false, or_true}

-- ---- a later operation changes no membership at an earlier version

-- the row is one of the group and the user, and counts
abbrev test : ℕ → ℕ → ℕ → Row → Bool
test g u v r = is_row_of g u r && counts_at v r

later_row : (g u v : ℕ) (r : Row) → v < r.begins → test g u v r ≡ false
later_row g u v r lt =
    let late : nat_le r.begins v ≡ false = lt-leb r.begins v lt in
    rw late (and_false (is_row_of g u r))

later_end : (n h w g u v : ℕ) (r : Row) → v < n → (t : Bool) → is_open h w r ≡ t → test g u v (ended n h w r) ≡ test g u v r
later_end n h w g u v r lt false is = rw is refl
later_end n h w g u v r lt true is =
    let still = (both (is_row_of h w r) (r.until == 0) is).1 in
    let more : nat_lt v n ≡ true = lt-ltb v n lt in
    rw (is, more, still, or_true (n == 0)) refl

later_ends : (n h w g u v : ℕ) (rs : List Row) → v < n → list_any (test g u v) (map (ended n h w) rs) ≡ list_any (test g u v) rs
later_ends n h w g u v [] lt = refl
later_ends n h w g u v (r ∷ rs) lt = rw (later_end n h w g u v r lt (is_open h w r) refl, later_ends n h w g u v rs lt) refl

later_effect : (n : ℕ) (c : TableChange) (t : Table) (g u v : ℕ) → v < n → is_member (effect n c t) g u v ≡ is_member t g u v
later_effect n (AddUser x key) t g u v lt = refl
later_effect n (SetKey x key) t g u v lt = refl
later_effect n (AddMember h w) t g u v lt =
    let new : Row = record { group = h; user = w; begins = n; until = 0 } in
    list_any-append (test g u v) t.rows (new ∷ []) ∙ rw (later_row g u v new lt) (or_false (list_any (test g u v) t.rows))
later_effect n (DropMember h w) t g u v lt = later_ends n h w g u v t.rows lt

either : {A : Type 0} (f : A → Bool) (b : Bool) (x y : A) → f x ≡ f y → f (if b then x else y) ≡ f y
either f true x y e = e
either f false x y e = refl

pub later_step : (s : Step) (t : Table) (g u v : ℕ) → v < s.number → is_member (after_step s t) g u v ≡ is_member t g u v
later_step s t g u v lt = either (λ (x : Table). is_member x g u v) (is_none (refused s.number s.change t)) (effect s.number s.change t) t (later_effect s.number s.change t g u v lt)

later_line : (ss : List Step) (n : ℕ) (t : Table) (g u v : ℕ) → InOrder n ss → v < n → is_member (after_line ss t) g u v ≡ is_member t g u v
later_line [] n t g u v order lt = refl
later_line (s ∷ ss) n t g u v order lt = later_line ss s.number (after_step s t) g u v order.1 (omega (arith, order.0)) ∙ later_step s t g u v (omega (arith, order.0))

-- ---- what is up to a version is so now

-- no row begins or ends after this version
abbrev Within : ℕ → List Row → Type 0
Within v [] = Unit {0}
Within v (r ∷ rs) = ((r.begins ≤ v) × (r.until ≤ v)) × Within v rs

within_more : (v : ℕ) (rs : List Row) (r : Row) → r.begins ≤ v → r.until ≤ v → Within v rs → Within v (rs ++ r ∷ [])
within_more v [] r begins until within = ((begins, until), tt)
within_more v (x ∷ xs) r begins until within = (within.0, within_more v xs r begins until within.1)

within_end : (n h w v : ℕ) (r : Row) → n ≤ v → r.begins ≤ v → r.until ≤ v → (t : Bool) → is_open h w r ≡ t → ((ended n h w r).begins ≤ v) × ((ended n h w r).until ≤ v)
within_end n h w v r le begins until true is = rw is (begins, le)
within_end n h w v r le begins until false is = rw is (begins, until)

within_ends : (n h w v : ℕ) (rs : List Row) → n ≤ v → Within v rs → Within v (map (ended n h w) rs)
within_ends n h w v [] le within = tt
within_ends n h w v (r ∷ rs) le within = (within_end n h w v r le within.0.0 within.0.1 (is_open h w r) refl, within_ends n h w v rs le within.1)

within_effect : (n : ℕ) (c : TableChange) (t : Table) (v : ℕ) → n ≤ v → Within v t.rows → Within v (effect n c t).rows
within_effect n (AddUser x key) t v le within = within
within_effect n (SetKey x key) t v le within = within
within_effect n (AddMember h w) t v le within = within_more v t.rows (record { group = h; user = w; begins = n; until = 0 }) le (omega arith) within
within_effect n (DropMember h w) t v le within = within_ends n h w v t.rows le within

within_either : (v : ℕ) (b : Bool) (x y : Table) → Within v x.rows → Within v y.rows → Within v (if b then x else y).rows
within_either v true x y one other = one
within_either v false x y one other = other

within_step : (s : Step) (t : Table) (v : ℕ) → s.number ≤ v → Within v t.rows → Within v (after_step s t).rows
within_step s t v le within = within_either v (is_none (refused s.number s.change t)) (effect s.number s.change t) t (within_effect s.number s.change t v le within) within

now_row : (g u v : ℕ) (r : Row) → r.begins ≤ v → r.until ≤ v → test g u v r ≡ is_open g u r
now_row g u v r begins until =
    let begun : nat_le r.begins v ≡ true = le-leb r.begins v begins in
    let past : nat_lt v r.until ≡ false = le-ltb v r.until until in
    rw (begun, past) (ap (λ b. is_row_of g u r && b) (or_false (r.until == 0)))

now_rows : (g u v : ℕ) (rs : List Row) → Within v rs → list_any (test g u v) rs ≡ list_any (is_open g u) rs
now_rows g u v [] within = refl
now_rows g u v (r ∷ rs) within = rw (now_row g u v r within.0.0 within.0.1, now_rows g u v rs within.1) refl

-- ---- the line

none_up_to : (v n : ℕ) (ss : List Step) → v < n → InOrder n ss → up_to v ss ≡ []
none_up_to v n [] lt order = refl
none_up_to v n (s ∷ ss) lt order =
    let late : nat_le s.number v ≡ false = lt-leb s.number v (omega (arith, order.0)) in
    rw late (none_up_to v s.number ss (omega (arith, order.0)) order.1)

member_line : (ss : List Step) (n : ℕ) (t : Table) (g u v : ℕ) → InOrder n ss → Within v t.rows → is_member (after_line ss t) g u v ≡ is_member_now (after_line (up_to v ss) t) g u
member_line [] n t g u v order within = now_rows g u v t.rows within
member_line (s ∷ ss) n t g u v order within =
    elim (cases_lt v s.number) [
      | inl lt ↦ (
          let late : nat_le s.number v ≡ false = lt-leb s.number v lt in
          later_line (s ∷ ss) s.number t g u v (omega arith, order.1) lt ∙ now_rows g u v t.rows within ∙ rw (late, none_up_to v s.number ss lt order.1) refl)
      | inr le ↦ (
          let early : nat_le s.number v ≡ true = le-leb s.number v le in
          rw early (member_line ss s.number (after_step s t) g u v order.1 (within_step s t v le within)))
    ]

-- who is a member at a version is who was one after the steps up to it
pub member_at : (key : List ℕ) (line : List Step) (g u v : ℕ) → InOrder 0 line → is_member (after_line line (genesis key)) g u v ≡ is_member_now (after_line (up_to v line) (genesis key)) g u
member_at key line g u v order = member_line line 0 (genesis key) g u v order tt
