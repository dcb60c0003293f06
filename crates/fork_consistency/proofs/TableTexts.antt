-- What a certificate makes of a table of principals that has a text still has one, where no row begins later than its
-- number.
use Rattle.std.proofs.Common.{◌≡◌, ℕ, Bool, true, false, ◌==◌, ◌&&◌, not, List, [], ◌∷◌, length, refl, subst, if◌then◌else◌, arith}
use Rattle.std.specs.Prelude.{nat_lt}
use Rattle.std.specs.Int.{w32}
use Rattle.std.specs.List.{All}
use Rattle.std.proofs.lemmas.Bool.{and_parts, ltb-true}
use Rattle.std.proofs.lemmas.List.Elements.{All-head, All-tail}
use Rattle.layout.specs.Laws.{in_range, in_range_fits}
use Rattle.layout.specs.Ranges.{user, group, version}
use Rattle.layout.specs.Types.{Digest}
use Rattle.principals.specs.Table.{Table, is_member_now, lists_user}
use Rattle.principals.specs.TableText.{NoneAfter, key, table}
use Rattle.principals.proofs.FitLaws.{drop_fits, listed_fits, member_fits, set_fits}
use Rattle.update_cert.specs.Change.{Action, Make, Put, Remove, Link, Unlink, AddUser, AddMember, DropMember, SetKey, Change, change}
use Rattle.update_cert.specs.Tables.{alters, table_after, table_after_change, table_becomes, table_effect}
use Rattle.update_cert.proofs.EffectLaws.{at_table}
use Rattle.update_cert.proofs.TableLaws.{none_after}

-- what a change of the table names fits its range
abbrev NamesFit : Action Digest → Type 0
NamesFit (AddUser u k) = user.Fits u × key.Fits k
NamesFit (AddMember g u) = group.Fits g × user.Fits u
NamesFit (DropMember g u) = group.Fits g × user.Fits u
NamesFit (SetKey u k) = user.Fits u × key.Fits k
NamesFit other = Unit {0}

names_at : (p i : ℕ) (a : Action Digest) → ((p == 0) && (i == 1)) ≡ true → change.Fits (record { principal = p; i_number = i; action = a }) → NamesFit a
names_at p i (AddUser u k) place fits = rw place at fits.1
names_at p i (AddMember g u) place fits = rw place at fits.1
names_at p i (DropMember g u) place fits = rw place at fits.1
names_at p i (SetKey u k) place fits = rw place at fits.1
names_at p i (Make new) place fits = tt
names_at p i (Put new) place fits = tt
names_at p i Remove place fits = tt
names_at p i (Link entry) place fits = tt
names_at p i (Unlink name) place fits = tt

names_fit : (c : Change Digest) (a : Action Digest) → c.action ≡ a → change.Fits c → NamesFit a
names_fit c (AddUser u k) same fits =
    let new : Change Digest = record { principal = c.principal; i_number = c.i_number; action = AddUser u k } in
    let new_fits = subst (λ (b : Action Digest). change.Fits (record { principal = c.principal; i_number = c.i_number; action = b })) same fits in
    names_at c.principal c.i_number (AddUser u k) (at_table new new_fits refl) new_fits
names_fit c (AddMember g u) same fits =
    let new : Change Digest = record { principal = c.principal; i_number = c.i_number; action = AddMember g u } in
    let new_fits = subst (λ (b : Action Digest). change.Fits (record { principal = c.principal; i_number = c.i_number; action = b })) same fits in
    names_at c.principal c.i_number (AddMember g u) (at_table new new_fits refl) new_fits
names_fit c (DropMember g u) same fits =
    let new : Change Digest = record { principal = c.principal; i_number = c.i_number; action = DropMember g u } in
    let new_fits = subst (λ (b : Action Digest). change.Fits (record { principal = c.principal; i_number = c.i_number; action = b })) same fits in
    names_at c.principal c.i_number (DropMember g u) (at_table new new_fits refl) new_fits
names_fit c (SetKey u k) same fits =
    let new : Change Digest = record { principal = c.principal; i_number = c.i_number; action = SetKey u k } in
    let new_fits = subst (λ (b : Action Digest). change.Fits (record { principal = c.principal; i_number = c.i_number; action = b })) same fits in
    names_at c.principal c.i_number (SetKey u k) (at_table new new_fits refl) new_fits
names_fit c (Make new) same fits = tt
names_fit c (Put new) same fits = tt
names_fit c Remove same fits = tt
names_fit c (Link entry) same fits = tt
names_fit c (Unlink name) same fits = tt

absent : (b : Bool) → not b ≡ true → b ≡ false
absent true e = absurd (cc e)
absent false e = refl

becomes_fits : (n : ℕ) (a : Action Digest) (t : Table) → version.Fits n → NamesFit a → alters n a t ≡ true → NoneAfter n t → table.Fits t → table.Fits (table_becomes n a t)
becomes_fits n (AddUser u k) t at names has none fits = listed_fits t.users t.rows u n k fits names.0 at names.1 (absent (lists_user t u) has)
becomes_fits n (SetKey u k) t at names has none fits = set_fits t.users t.rows u n k fits at names.1 has
becomes_fits n (AddMember g u) t at names has none fits =
    let one = and_parts (lists_user t u) (not (is_member_now t g u) && nat_lt (length t.rows) 65535) has in
    let two = and_parts (not (is_member_now t g u)) (nat_lt (length t.rows) 65535) one.1 in
    member_fits t.users t.rows n g u fits (ltb-true (length t.rows) 65535 two.1) none names.0 names.1 at one.0 (absent (is_member_now t g u) two.0)
becomes_fits n (DropMember g u) t at names has none fits =
    let range = in_range w32 1 4294967295 n at in
    drop_fits t.users t.rows n g u fits (λ zero. omega (arith, range.0, zero)) (in_range_fits w32 0 4294967295 n (omega (arith, range.1)) (omega arith) (omega (arith, range.1))) none
becomes_fits n (Make new) t at names has none fits = fits
becomes_fits n (Put new) t at names has none fits = fits
becomes_fits n Remove t at names has none fits = fits
becomes_fits n (Link entry) t at names has none fits = fits
becomes_fits n (Unlink name) t at names has none fits = fits

one_change : (u n : ℕ) (c : Change Digest) (t : Table) → change.Fits c → version.Fits n → NoneAfter n t → table.Fits t → table.Fits (table_after_change u n c t)
one_change u n c t c_fits at none fits = go (table_effect u n c t) refl
  where
    go : (b : Bool) → table_effect u n c t ≡ b → table.Fits (if b then table_becomes n c.action t else t)
    go true has = becomes_fits n c.action t at (names_fit c c.action refl c_fits) (and_parts (u == 0) (alters n c.action t) has).1 none fits
    go false other = fits

none_one : (u n : ℕ) (c : Change Digest) (t : Table) → NoneAfter n t → NoneAfter n (table_after_change u n c t)
unfolding table_after
none_one u n c t none = none_after u n (c ∷ []) t none

-- all changes of one certificate
pub after_fits : (u n : ℕ) (cs : List (Change Digest)) (t : Table) → All change.Fits cs → version.Fits n → NoneAfter n t → table.Fits t → table.Fits (table_after u n cs t)
unfolding table_after
after_fits u n [] t each at none fits = fits
after_fits u n (c ∷ cs) t each at none fits =
    after_fits u n cs (table_after_change u n c t) (All-tail change.Fits c cs each) at (none_one u n c t none) (one_change u n c t (All-head change.Fits c cs each) at none fits)
