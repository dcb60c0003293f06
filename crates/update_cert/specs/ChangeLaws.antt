-- Nobody has to believe this file: laws, which are proved.
-- Changes: what is read is spelled so, what fits and is spelled so is read, and how long it is at most.
use Rattle.std.proofs.Common.{refl, sym, ap, ◌∙◌, arith}
use Rattle.std.specs.Prelude.{◌≡◌, ℕ, zero, suc, ◌≤◌, ◌==◌, Bool, true, false, ◌&&◌, Option, Some, None, if◌then◌else◌}
use Rattle.std.specs.Int.{w8, w16}
use Rattle.std.proofs.lemmas.Bool.{eqb-true}
use Rattle.layout.specs.Format.{uint_in, raw, pair, nothing, Lawful}
use Rattle.layout.specs.Laws.{laws, in_range, lawful_sized, lawful_variant, variant_is, wide8, wide16}
use Rattle.layout.specs.Sizes.{AtMost, at_most_guarded, at_most_mapped, at_most_more, at_most_nothing, at_most_pair, at_most_raw, at_most_sized, at_most_uint_in, at_most_variant}
use Rattle.layout.specs.Ranges.{user, group}
use Rattle.layout.specs.Types.{Bytes, Digest, Group, Key, User}
use Rattle.layout.specs.declared.error.ReadError.TheVariants.{Range}
use Rattle.lms_sign.specs.Keys.{is_key}
use Rattle.principals.specs.TableText.{key}
use Rattle.principals.specs.TableTextLaws.{lawful_key}
use Rattle.directory.specs.Directory.{Entry, named}
use Rattle.directory.specs.DirectoryLaws.{lawful_named, at_most_name, at_most_named}
use Rattle.directory.specs.Name.{name}
use Rattle.directory.specs.NameLaws.{lawful_name}
use Rattle.update_cert.specs.declared.change.TheConstants.{CHANGE_SIZE}
use Rattle.update_cert.specs.Change.{Action, Change, of_table, kind, as_make, as_put, as_remove, as_link, as_unlink, as_add_user, as_add_member, as_drop_member, as_set_key, action, placed_fields, in_table, table_fields, fields, kind_of, change, Make, Put, Remove, Link, Unlink, AddUser, AddMember, DropMember, SetKey}

-- ---- its laws

is_make : (a : Action Digest) (x : Bytes) → as_make a ≡ Some x → Make x ≡ a
is_make (Make inode) x e = cc
is_make other x e = absurd cc

is_put : (a : Action Digest) (x : Bytes) → as_put a ≡ Some x → Put x ≡ a
is_put (Put inode) x e = cc
is_put other x e = absurd cc

is_remove : (a : Action Digest) (x : Unit {0}) → as_remove a ≡ Some x → Remove ≡ a
is_remove Remove x e = refl
is_remove other x e = absurd cc

is_link : (a : Action Digest) (x : Entry) → as_link a ≡ Some x → Link x ≡ a
is_link (Link entry) x e = cc
is_link other x e = absurd cc

is_unlink : (a : Action Digest) (x : Bytes) → as_unlink a ≡ Some x → Unlink x ≡ a
is_unlink (Unlink old) x e = cc
is_unlink other x e = absurd cc

lawful_action : (k : ℕ) → Lawful (action k)
lawful_action zero = lawful_variant (λ _. Remove) as_remove nothing (λ x. refl) is_remove (search laws)
lawful_action (suc zero) = lawful_variant (λ inode. Make inode) as_make (raw 32) (λ x. refl) is_make (search laws)
lawful_action (suc (suc zero)) = lawful_variant (λ inode. Put inode) as_put (raw 32) (λ x. refl) is_put (search laws)
lawful_action (suc (suc (suc zero))) = lawful_variant (λ _. Remove) as_remove nothing (λ x. refl) is_remove (search laws)
lawful_action (suc (suc (suc (suc zero)))) = lawful_variant (λ entry. Link entry) as_link named (λ x. refl) is_link lawful_named
lawful_action (suc (suc (suc (suc (suc n))))) = lawful_variant (λ old. Unlink old) as_unlink name (λ x. refl) is_unlink lawful_name

is_add_user : (a : Action Digest) (x : User × Key) → as_add_user a ≡ Some x → AddUser x.0 x.1 ≡ a
is_add_user (AddUser u key) x e = cc
is_add_user other x e = absurd cc

is_add_member : (a : Action Digest) (x : Group × User) → as_add_member a ≡ Some x → AddMember x.0 x.1 ≡ a
is_add_member (AddMember g u) x e = cc
is_add_member other x e = absurd cc

is_drop_member : (a : Action Digest) (x : Group × User) → as_drop_member a ≡ Some x → DropMember x.0 x.1 ≡ a
is_drop_member (DropMember g u) x e = cc
is_drop_member other x e = absurd cc

is_set_key : (a : Action Digest) (x : User × Key) → as_set_key a ≡ Some x → SetKey x.0 x.1 ≡ a
is_set_key (SetKey u key) x e = cc
is_set_key other x e = absurd cc

in_table_at : {X : Type 0} (t : Bool) (o : Option X) (x : X) → (if t then o else None) ≡ Some x → (t ≡ true) × (o ≡ Some x)
in_table_at true o x e = (refl, e)
in_table_at false o x e = absurd cc

both_true : (a b : Bool) → (a && b) ≡ true → (a ≡ true) × (b ≡ true)
both_true true true e = (refl, refl)
both_true true false e = absurd cc
both_true false b e = absurd cc

-- a change of the table is the one by its action
table_is : {X : Type 0} (to : X → Action Digest) (from : Action Digest → Option X) → ((a : Action Digest) (x : X) → from a ≡ Some x → to x ≡ a) → (c : Change Digest) (x : X) → in_table from c ≡ Some x → of_table (to x) ≡ c
table_is to from is c x e =
    let found = in_table_at ((c.principal == 0) && (c.i_number == 1)) (from c.action) x e in
    let place = both_true (c.principal == 0) (c.i_number == 1) found.0 in
    rw (eqb-true c.principal 0 place.0, eqb-true c.i_number 1 place.1, is c.action x found.1) refl

lawful_placed : (k : ℕ) → Lawful (placed_fields k)
lawful_placed k = search (laws, lawful_action) depth 9

lawful_table_fields : (k : ℕ) → Lawful (table_fields k)
lawful_table_fields zero = lawful_variant (λ p. of_table (AddUser p.0 p.1)) (in_table as_add_user) (pair user key) (λ x. refl) (table_is (λ p. AddUser p.0 p.1) as_add_user is_add_user) (search (laws, lawful_key))
lawful_table_fields (suc zero) = lawful_variant (λ p. of_table (AddMember p.0 p.1)) (in_table as_add_member) (pair group user) (λ x. refl) (table_is (λ p. AddMember p.0 p.1) as_add_member is_add_member) (search laws)
lawful_table_fields (suc (suc zero)) = lawful_variant (λ p. of_table (DropMember p.0 p.1)) (in_table as_drop_member) (pair group user) (λ x. refl) (table_is (λ p. DropMember p.0 p.1) as_drop_member is_drop_member) (search laws)
lawful_table_fields (suc (suc (suc n))) = lawful_variant (λ p. of_table (SetKey p.0 p.1)) (in_table as_set_key) (pair user key) (λ x. refl) (table_is (λ p. SetKey p.0 p.1) as_set_key is_set_key) (search (laws, lawful_key))

lawful_fields : (k : ℕ) → Lawful (fields k)
lawful_fields zero = lawful_placed 0
lawful_fields (suc zero) = lawful_placed 1
lawful_fields (suc (suc zero)) = lawful_placed 2
lawful_fields (suc (suc (suc zero))) = lawful_placed 3
lawful_fields (suc (suc (suc (suc zero)))) = lawful_placed 4
lawful_fields (suc (suc (suc (suc (suc zero))))) = lawful_placed 5
lawful_fields (suc (suc (suc (suc (suc (suc n)))))) = lawful_table_fields n

same_table_kind : (k : ℕ) (c : Change Digest) → k ≤ 3 → (table_fields k).Fits c → kind_of c ≡ suc (suc (suc (suc (suc (suc k)))))
same_table_kind zero c few fits = ap kind_of (sym (variant_is _ (in_table as_add_user) (pair user key) (table_is (λ p. AddUser p.0 p.1) as_add_user is_add_user) c fits).1)
same_table_kind (suc zero) c few fits = ap kind_of (sym (variant_is _ (in_table as_add_member) (pair group user) (table_is (λ p. AddMember p.0 p.1) as_add_member is_add_member) c fits).1)
same_table_kind (suc (suc zero)) c few fits = ap kind_of (sym (variant_is _ (in_table as_drop_member) (pair group user) (table_is (λ p. DropMember p.0 p.1) as_drop_member is_drop_member) c fits).1)
same_table_kind (suc (suc (suc n))) c few fits = ap kind_of (sym (variant_is _ (in_table as_set_key) (pair user key) (table_is (λ p. SetKey p.0 p.1) as_set_key is_set_key) c fits).1) ∙ omega (arith, few)

-- what is read after a kind is of this kind
same_kind : (k : ℕ) (c : Change Digest) → (uint_in w8 1 9).Fits k → (fields k).Fits c → kind_of c ≡ k
same_kind zero c few fits = let range = in_range w8 1 9 zero few in absurd (omega (arith, range.0))
same_kind (suc zero) c few fits = ap kind (sym (variant_is _ as_make (raw 32) is_make c.action fits.1.1).1)
same_kind (suc (suc zero)) c few fits = ap kind (sym (variant_is _ as_put (raw 32) is_put c.action fits.1.1).1)
same_kind (suc (suc (suc zero))) c few fits = ap kind (sym (variant_is _ as_remove nothing is_remove c.action fits.1.1).1)
same_kind (suc (suc (suc (suc zero)))) c few fits = ap kind (sym (variant_is _ as_link named is_link c.action fits.1.1).1)
same_kind (suc (suc (suc (suc (suc zero))))) c few fits = ap kind (sym (variant_is _ as_unlink name is_unlink c.action fits.1.1).1)
same_kind (suc (suc (suc (suc (suc (suc n)))))) c few fits =
    let range = in_range w8 1 9 (suc (suc (suc (suc (suc (suc n)))))) few in
    same_table_kind n c (omega (arith, range.1)) fits

pub lawful_change : Lawful change
lawful_change = lawful_sized (uint_in w8 1 9) kind_of fields (search laws) lawful_fields same_kind

-- ---- sizes

at_most_action : (k : ℕ) → AtMost (action k) 259
at_most_action zero = at_most_variant (λ _. Remove) as_remove nothing 259 (at_most_more nothing 0 259 at_most_nothing (omega arith))
at_most_action (suc zero) = at_most_variant (λ inode. Make inode) as_make (raw 32) 259 (at_most_more (raw 32) 32 259 (at_most_raw 32) (omega arith))
at_most_action (suc (suc zero)) = at_most_variant (λ inode. Put inode) as_put (raw 32) 259 (at_most_more (raw 32) 32 259 (at_most_raw 32) (omega arith))
at_most_action (suc (suc (suc zero))) = at_most_variant (λ _. Remove) as_remove nothing 259 (at_most_more nothing 0 259 at_most_nothing (omega arith))
at_most_action (suc (suc (suc (suc zero)))) = at_most_variant (λ entry. Link entry) as_link named 259 at_most_named
at_most_action (suc (suc (suc (suc (suc n))))) = at_most_variant (λ old. Unlink old) as_unlink name 259 (at_most_more name 256 259 at_most_name (omega arith))

at_most_placed : (k : ℕ) → AtMost (placed_fields k) 262
at_most_placed k = at_most_mapped _ _ _ 262 (at_most_pair _ _ 1 261 (at_most_uint_in w8 0 95 wide8) (at_most_pair _ _ 2 259 (at_most_uint_in w16 1 4095 wide16) (at_most_action k)))

at_most_listing : AtMost (pair user key) 262
at_most_listing = at_most_more (pair user key) 57 262 (at_most_pair user key 1 56 (at_most_uint_in w8 0 63 wide8) (at_most_guarded (raw 56) is_key Range 56 (at_most_raw 56))) (omega arith)

at_most_member : AtMost (pair group user) 262
at_most_member = at_most_more (pair group user) 2 262 (at_most_pair group user 1 1 (at_most_uint_in w8 64 95 wide8) (at_most_uint_in w8 0 63 wide8)) (omega arith)

at_most_table_fields : (k : ℕ) → AtMost (table_fields k) 262
at_most_table_fields zero = at_most_variant (λ p. of_table (AddUser p.0 p.1)) (in_table as_add_user) (pair user key) 262 at_most_listing
at_most_table_fields (suc zero) = at_most_variant (λ p. of_table (AddMember p.0 p.1)) (in_table as_add_member) (pair group user) 262 at_most_member
at_most_table_fields (suc (suc zero)) = at_most_variant (λ p. of_table (DropMember p.0 p.1)) (in_table as_drop_member) (pair group user) 262 at_most_member
at_most_table_fields (suc (suc (suc n))) = at_most_variant (λ p. of_table (SetKey p.0 p.1)) (in_table as_set_key) (pair user key) 262 at_most_listing

at_most_fields : (k : ℕ) → AtMost (fields k) 262
at_most_fields zero = at_most_placed 0
at_most_fields (suc zero) = at_most_placed 1
at_most_fields (suc (suc zero)) = at_most_placed 2
at_most_fields (suc (suc (suc zero))) = at_most_placed 3
at_most_fields (suc (suc (suc (suc zero)))) = at_most_placed 4
at_most_fields (suc (suc (suc (suc (suc zero))))) = at_most_placed 5
at_most_fields (suc (suc (suc (suc (suc (suc n)))))) = at_most_table_fields n

pub at_most_change : AtMost change CHANGE_SIZE
at_most_change = at_most_sized (uint_in w8 1 9) kind_of fields 1 262 (at_most_uint_in w8 1 9 wide8) at_most_fields
