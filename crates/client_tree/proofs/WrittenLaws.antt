-- Each principal whose changes are permitted to the own operation is among those whose parts it may change.
use Rattle.std.proofs.Common.{◌≡◌, ℕ, zero, suc, ◌<◌, ◌≤◌, Bool, true, false, ◌&&◌, ◌||◌, List, [], ◌∷◌, length, map, Option, None, refl, sym, ap, ◌∙◌, arith}
use Rattle.std.specs.Prelude.{◌==◌, IsSomeAnd, nat_le, slice_index_or, if◌then◌else◌}
use Rattle.std.specs.Int.{w8}
use Rattle.std.specs.List.{All, list_any}
use Rattle.std.proofs.lemmas.Bool.{and_parts, eq-eqb, eqb-true, leb-true}
use Rattle.std.proofs.lemmas.List.Elements.{All-cons, All-nil, All-weaker}
use Rattle.layout.specs.Format.{FitRows, after_row}
use Rattle.layout.specs.Laws.{in_range}
use Rattle.layout.specs.Types.{Digest, Principal}
use Rattle.principals.specs.Table.{is_member}
use Rattle.update_cert.specs.Change.{Action, Make, Put, Remove, Link, Unlink, AddUser, AddMember, DropMember, SetKey, Change, change}
use Rattle.update_cert.specs.Cert.{Cert, cert, change_rows}
use Rattle.update_cert.specs.World.{permitted}
use Rattle.pending_list.specs.Groups.{raised_groups, raises_at, table_version, touches}
use Rattle.pending_list.proofs.GroupsLaws.{has_group}
use Rattle.client_tree.specs.Lost.{PartVoids}
use Rattle.client_tree.specs.View.{View, actor_of, acts_for, written}
use Rattle.client_tree.proofs.LostLaws.{AreListed, lists}

-- ---- what a certificate has

all_fit : (b : Option (Change Digest)) (cs : List (Change Digest)) → FitRows (after_row change_rows) b cs → All change.Fits cs
unfolding FitRows
all_fit b [] fits = All-nil change.Fits
all_fit b (c ∷ cs) fits = All-cons change.Fits c cs fits.0 (all_fit _ cs fits.1)

in_place : {X : Type 0} (p i : ℕ) (first : Bool) (found : Option X) (P : X → Type 0) → (p == 0) ≡ first → IsSomeAnd (if (p == 0) && (i == 1) then found else None) P → p < 96
in_place p i true found P is fits = let zero = eqb-true p 0 is in omega (arith, zero)
in_place p i false found P is fits = absurd (rw is at fits)

below : (p i : ℕ) (a : Action Digest) → change.Fits (record { principal = p; i_number = i; action = a }) → p < 96
below p i (Make new) fits = let range = in_range w8 0 95 p fits.1.0 in omega (arith, range.1)
below p i (Put new) fits = let range = in_range w8 0 95 p fits.1.0 in omega (arith, range.1)
below p i Remove fits = let range = in_range w8 0 95 p fits.1.0 in omega (arith, range.1)
below p i (Link entry) fits = let range = in_range w8 0 95 p fits.1.0 in omega (arith, range.1)
below p i (Unlink name) fits = let range = in_range w8 0 95 p fits.1.0 in omega (arith, range.1)
below p i (AddUser u key) fits = in_place p i (p == 0) _ _ refl fits.1
below p i (AddMember g u) fits = in_place p i (p == 0) _ _ refl fits.1
below p i (DropMember g u) fits = in_place p i (p == 0) _ _ refl fits.1
below p i (SetKey u key) fits = in_place p i (p == 0) _ _ refl fits.1

in_cert : (c : Cert) → cert.Fits c → All (λ x. x.principal < 96) c.changes
in_cert c fits = All-weaker change.Fits (λ x. x.principal < 96) (λ x of. below x.principal x.i_number x.action of) c.changes (all_fit None c.changes fits.1.1.1.1.1)

either : (b : Bool) → (b || true) ≡ true
either true = refl
either false = refl

abbrev IsTouched : List (Change Digest) → Change Digest → Type 0
IsTouched cs c = list_any (touches c.principal) cs ≡ true

all_touch : (cs : List (Change Digest)) → All (IsTouched cs) cs
all_touch [] = All-nil (IsTouched [])
all_touch (x ∷ xs) =
    All-cons (IsTouched (x ∷ xs)) x xs (rw (eq-eqb x.principal x.principal refl) refl)
    (All-weaker (IsTouched xs) (IsTouched (x ∷ xs)) (λ c is. rw is (either (x.principal == c.principal))) xs (all_touch xs))

-- ---- what may be changed

among : (user p : ℕ) (rs : List ℕ) (own other : Bool) → (p == user) ≡ own → (own || other) ≡ true → (other ≡ true → list_any (λ q. q == p) rs ≡ true) → list_any (λ q. q == p) (user ∷ rs) ≡ true
among user p rs true other is may there = rw (eq-eqb user p (sym (eqb-true p user is))) refl
among user p rs false other is may there = rw (there may) (either (user == p))

in_written : (x : View) (c : Change Digest) → c.principal < 96 → list_any (touches c.principal) x.own.cert.changes ≡ true → permitted (actor_of x.table x.own) c ≡ true → list_any (λ q. q == c.principal) (written x) ≡ true
in_written x c high touched may =
    let v = table_version x.own.plan in
    among x.own.cert.user c.principal (raised_groups x.table x.own) (c.principal == x.own.cert.user) (nat_le 64 c.principal && acts_for x.table x.own c.principal) refl may (λ of.
    let parts = and_parts (nat_le 64 c.principal) (acts_for x.table x.own c.principal) of in
    let low : 64 ≤ c.principal = leb-true 64 c.principal parts.0 in
    let member = (and_parts (nat_le 64 c.principal) (is_member x.table c.principal x.own.cert.user v) parts.1).1 in
    has_group (raises_at x.table v x.own.cert) 32 c.principal low (omega (arith, high)) ∙ rw (touched, member) refl)

lists_map : (p : Principal) (vs : List PartVoids) → lists p vs ≡ list_any (λ q. q == p) (map (λ v. v.principal) vs)
lists_map p [] = refl
lists_map p (v ∷ vs) = ap (λ (t : Bool). (v.principal == p) || t) (lists_map p vs)

pub are_listed : (x : View) (vs : List PartVoids) → cert.Fits x.own.cert → map (λ v. v.principal) vs ≡ written x → AreListed (actor_of x.table x.own) vs x.own.cert.changes
are_listed x vs fits are k d inside =
    let cs = x.own.cert.changes in
    let c = slice_index_or cs k d in
    λ may. lists_map c.principal vs ∙ ap (list_any (λ q. q == c.principal)) are ∙ in_written x c (in_cert x.own.cert fits k d inside) (all_touch cs k d inside) may

-- one of a list is among it
pub has_item : (xs : List ℕ) (k p : ℕ) → k < length xs → p ≡ slice_index_or xs k p → list_any (λ q. q == p) xs ≡ true
has_item [] k p inside at = absurd (omega (arith, inside))
has_item (x ∷ xs) zero p inside at = rw (eq-eqb x p (sym at)) refl
has_item (x ∷ xs) (suc k) p inside at = rw (has_item xs k p (omega (arith, inside)) at) (either (x == p))
