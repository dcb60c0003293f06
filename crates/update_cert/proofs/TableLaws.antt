-- The table of principals after changes in turn.
use Rattle.std.proofs.Common.{◌≡◌, ℕ, suc, ◌+◌, ◌≤◌, Bool, true, false, List, [], ◌∷◌, ◌++◌, length, take, refl, sym, ap, ◌∙◌, arith}
use Rattle.std.specs.Prelude.{zero, ◌&&◌, ◌||◌, ◌==◌, if◌then◌else◌}
use Rattle.std.specs.List.{list_any}
use Rattle.std.proofs.lemmas.List.Elements.{All-map, All-push, All-weaker}
use Rattle.principals.specs.declared.table.Row.{Row}
use Rattle.principals.specs.Table.{Table, is_open, ended}
use Rattle.principals.specs.TableText.{NoneAfter}
use Rattle.update_cert.specs.Change.{Action, Make, Put, Remove, Link, Unlink, AddUser, AddMember, DropMember, SetKey, Change}
use Rattle.update_cert.specs.World.{changes_table, is_of_table}
use Rattle.update_cert.specs.Tables.{alters, table_becomes, table_effect, table_after_change, table_after}
use Rattle.update_cert.specs.TableVoids.{is_void_on, table_voids}
use Rattle.update_cert.proofs.Numbers.{if_void, void_step, more, no_more}

-- ---- one change more

pub table_last : {C : Type 0} (user number : ℕ) (cs : List (Change C)) (c : Change C) (t : Table) → table_after user number (cs ++ c ∷ []) t ≡ table_after_change user number c (table_after user number cs t)
unfolding table_after
table_last user number [] c t = refl
table_last user number (x ∷ xs) c t = table_last user number xs c (table_after_change user number x t)

voids_last : {C : Type 0} (n user number : ℕ) (cs : List (Change C)) (c : Change C) (t : Table)
    → table_voids n user number (cs ++ c ∷ []) t ≡ table_voids n user number cs t ++ if_void (is_void_on user number c (table_after user number cs t)) (n + length cs)
unfolding table_after table_voids
voids_last n user number [] c t = ap (λ (k : ℕ). if_void (is_void_on user number c t) k) (no_more n)
voids_last n user number (x ∷ xs) c t =
    let next = table_after_change user number x t in
    void_step (is_void_on user number x t) n (table_voids (n + 1) user number (xs ++ c ∷ []) next) (table_voids (n + 1) user number xs next) (if_void (is_void_on user number c (table_after user number xs next)) (n + suc (length xs)))
    (voids_last (n + 1) user number xs c next ∙ ap (λ (k : ℕ). table_voids (n + 1) user number xs next ++ if_void (is_void_on user number c (table_after user number xs next)) k) (more n (length xs)))

pub table_next : {C : Type 0} (user number : ℕ) (cs next : List (Change C)) (c : Change C) (first old new : Table) → next ≡ cs ++ c ∷ [] → old ≡ table_after user number cs first → new ≡ table_after_change user number c old → new ≡ table_after user number next first
table_next user number cs next c first old new is before more =
    more
    ∙ ap (table_after_change user number c) before
    ∙ sym (table_last user number cs c first)
    ∙ sym (ap (λ (xs : List (Change _)). table_after user number xs first) is)

pub table_voids_next : {C : Type 0} (user number k : ℕ) (cs next : List (Change C)) (c : Change C) (first table : Table) (old new : List ℕ) (t : Bool) → next ≡ cs ++ c ∷ [] → length cs ≡ k → table ≡ table_after user number cs first → t ≡ is_void_on user number c table
    → old ≡ table_voids 1 user number cs first → new ≡ old ++ if_void t (k + 1) → new ≡ table_voids 1 user number next first
table_voids_next user number k cs next c first table old new t is long stood told before more =
    let place : k + 1 ≡ 1 + length cs = omega (arith, long) in
    more
    ∙ ap (λ (ns : List ℕ). ns ++ if_void t (k + 1)) before
    ∙ ap (λ (b : Bool). table_voids 1 user number cs first ++ if_void b (k + 1)) (told ∙ ap (is_void_on user number c) stood)
    ∙ ap (λ (n : ℕ). table_voids 1 user number cs first ++ if_void (is_void_on user number c (table_after user number cs first)) n) place
    ∙ sym (voids_last 1 user number cs c first)
    ∙ sym (ap (λ (xs : List (Change _)). table_voids 1 user number xs first) is)

-- ---- where nothing changes it

-- what isn't one of the table doesn't alter it
pub other_alters : {C : Type 0} (n : ℕ) (a : Action C) (t : Table) → changes_table a ≡ false → alters n a t ≡ false
other_alters n (Make new) t other = refl
other_alters n (Put new) t other = refl
other_alters n Remove t other = refl
other_alters n (Link entry) t other = refl
other_alters n (Unlink name) t other = refl
other_alters n (AddUser u key) t other = absurd cc
other_alters n (AddMember g u) t other = absurd cc
other_alters n (DropMember g u) t other = absurd cc
other_alters n (SetKey u key) t other = absurd cc

neither : (a b : Bool) → (a || b) ≡ false → (a ≡ false) × (b ≡ false)
neither true b e = absurd cc
neither false b e = (refl, e)

pub other_stays : {C : Type 0} (user number : ℕ) (c : Change C) (t : Table) (own : Bool) → (user == 0) ≡ own → (own && is_of_table c) ≡ false → table_after_change user number c t ≡ t
other_stays user number c t false is none = rw is refl
other_stays user number c t true is none = rw (is, other_alters number c.action t none) refl

-- none of these changes is one that may change it
abbrev NoneOfTable : {C : Type 0} → Bool → List (Change C) → Type 0
NoneOfTable own cs = (own && list_any is_of_table cs) ≡ false

none_head : {C : Type 0} (own : Bool) (c : Change C) (cs : List (Change C)) → NoneOfTable own (c ∷ cs) → ((own && is_of_table c) ≡ false) × NoneOfTable own cs
none_head true c cs none = neither (is_of_table c) (list_any is_of_table cs) none
none_head false c cs none = (refl, refl)

none_front : {C : Type 0} (own : Bool) (k : ℕ) (cs : List (Change C)) → NoneOfTable own cs → NoneOfTable own (take k cs)
none_front true zero cs none = refl
none_front true (suc k) [] none = refl
none_front true (suc k) (c ∷ cs) none =
    let both = neither (is_of_table c) (list_any is_of_table cs) none in
    rw both.0 (none_front true k cs both.1)
none_front false k cs none = refl

pub stays : {C : Type 0} (user number : ℕ) (cs : List (Change C)) (t : Table) (own : Bool) → (user == 0) ≡ own → NoneOfTable own cs → table_after user number cs t ≡ t
unfolding table_after
stays user number [] t own is none = refl
stays user number (c ∷ cs) t own is none =
    let both = none_head own c cs none in
    ap (table_after user number cs) (other_stays user number c t own is both.0) ∙ stays user number cs t own is both.1

-- nor do some of them
pub front_stays : {C : Type 0} (user number k : ℕ) (cs : List (Change C)) (t : Table) → ((user == 0) && list_any is_of_table cs) ≡ false → table_after user number (take k cs) t ≡ t
front_stays user number k cs t none = stays user number (take k cs) t (user == 0) refl (none_front (user == 0) k cs none)

pub all_stay : {C : Type 0} (user number : ℕ) (cs : List (Change C)) (t : Table) → ((user == 0) && list_any is_of_table cs) ≡ false → table_after user number cs t ≡ t
all_stay user number cs t none = stays user number cs t (user == 0) refl none

-- ---- no row begins later than the number

ended_begins : (n number g u : ℕ) (r : Row) (t : Bool) → is_open g u r ≡ t → r.begins ≤ n → (ended number g u r).begins ≤ n
ended_begins n number g u r true is le = rw is le
ended_begins n number g u r false is le = rw is le

none_becomes : {C : Type 0} (n : ℕ) (a : Action C) (t : Table) → NoneAfter n t → NoneAfter n (table_becomes n a t)
none_becomes n (Make new) t none = none
none_becomes n (Put new) t none = none
none_becomes n Remove t none = none
none_becomes n (Link entry) t none = none
none_becomes n (Unlink name) t none = none
none_becomes n (AddUser u key) t none = none
none_becomes n (SetKey u key) t none = none
none_becomes n (AddMember g u) t none = All-push (λ (r : Row). r.begins ≤ n) t.rows (record { group = g; user = u; begins = n; until = 0 }) none (omega arith)
none_becomes n (DropMember g u) t none = All-map (λ (r : Row). r.begins ≤ n) (ended n g u) t.rows (All-weaker (λ (r : Row). r.begins ≤ n) (λ (r : Row). (ended n g u r).begins ≤ n) (λ r le. ended_begins n n g u r (is_open g u r) refl le) t.rows none)

none_change : {C : Type 0} (user n : ℕ) (c : Change C) (t : Table) → NoneAfter n t → NoneAfter n (table_after_change user n c t)
none_change user n c t none = elim (table_effect user n c t) as (λ e. NoneAfter n (if e then table_becomes n c.action t else t)) [
  | true ↦ none_becomes n c.action t none
  | false ↦ none
]

pub none_after : {C : Type 0} (user n : ℕ) (cs : List (Change C)) (t : Table) → NoneAfter n t → NoneAfter n (table_after user n cs t)
unfolding table_after
none_after user n [] t none = none
none_after user n (c ∷ cs) t none = none_after user n cs (table_after_change user n c t) (none_change user n c t none)
