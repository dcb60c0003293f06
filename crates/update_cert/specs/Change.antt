-- Changes: what an operation does at an i-number of a principal.
-- The bytes stand in docs/FORMATS.md.
use Rattle.std.specs.Prelude.{ℕ, zero, suc, ◌==◌, ◌&&◌, Option, Some, None, if◌then◌else◌}
use Rattle.std.specs.Int.{w8}
use Rattle.layout.specs.Format.{Format, uint_in, raw, pair, nothing, variant, sized, mapped}
use Rattle.layout.specs.Ranges.{principal, i_number, user, group}
use Rattle.layout.specs.Types.{Bytes, Digest, Group, INumber, Key, Principal, User}
use Rattle.principals.specs.TableText.{key}
use Rattle.directory.specs.Directory.{Entry, named}
use Rattle.directory.specs.Name.{name}
use Rattle.update_cert.specs.declared.change.Action.{Action as Held}
use Rattle.update_cert.specs.declared.change.Action.TheVariants as held
use Rattle.update_cert.specs.declared.change.TableChange.{TableChange}
use Rattle.update_cert.specs.declared.change.TableChange.TheVariants as table_change
use Rattle.update_cert.specs.declared.change.AnyAction.{AnyAction}
use Rattle.update_cert.specs.declared.change.AnyAction.TheVariants as any_action

-- What is done. Make and Put have what is to stand there: in a certificate the digest of its i-node, in an operation
-- the content. Link has the new entry, and Unlink the name of one. The last four are done to the table of principals,
-- at user 0's i-number 1.
pub data Action (C : Type 0) : Type 0 where
  Make : C → Action C
  Put : C → Action C
  Remove : Action C
  Link : Entry → Action C
  Unlink : Bytes → Action C
  AddUser : User → Key → Action C
  AddMember : Group → User → Action C
  DropMember : Group → User → Action C
  SetKey : User → Key → Action C

-- what is done at an i-number of a principal
pub record Change (C : Type 0) : Type 0 where
  pub principal : Principal
  pub i_number : INumber
  pub action : Action C

-- the change of the table by this action
abbrev pub of_table : {C : Type 0} → Action C → Change C
of_table action = record { principal = 0; i_number = 1; action = action }

-- an action in memory
abbrev pub action_of : {A : Type 0} → Held A → Action Digest
action_of (held.Make inode) = Make inode
action_of (held.Put inode) = Put inode
action_of held.Remove = Remove
action_of (held.Link entry) = Link entry
action_of (held.Unlink old) = Unlink old

-- a change of the table in memory
abbrev pub table_action_of : TableChange → Action Digest
table_action_of (table_change.AddUser u key) = AddUser u key
table_action_of (table_change.AddMember g u) = AddMember g u
table_action_of (table_change.DropMember g u) = DropMember g u
table_action_of (table_change.SetKey u key) = SetKey u key

-- what a change in memory does
abbrev pub any_action_of : {A : Type 0} → AnyAction A → Action Digest
any_action_of (any_action.At action) = action_of action
any_action_of (any_action.OfTable change) = table_action_of change

-- ---- the text

-- the number of its kind
abbrev pub kind : {C : Type 0} → Action C → ℕ
kind (Make inode) = 1
kind (Put inode) = 2
kind Remove = 3
kind (Link entry) = 4
kind (Unlink old) = 5
kind (AddUser u k) = 6
kind (AddMember g u) = 7
kind (DropMember g u) = 8
kind (SetKey u k) = 9

abbrev pub as_make : Action Digest → Option Digest
as_make (Make inode) = Some inode
as_make other = None

abbrev pub as_put : Action Digest → Option Digest
as_put (Put inode) = Some inode
as_put other = None

abbrev pub as_remove : Action Digest → Option (Unit {0})
as_remove Remove = Some tt
as_remove other = None

abbrev pub as_link : Action Digest → Option Entry
as_link (Link entry) = Some entry
as_link other = None

abbrev pub as_unlink : Action Digest → Option Bytes
as_unlink (Unlink old) = Some old
as_unlink other = None

abbrev pub as_add_user : Action Digest → Option (User × Key)
as_add_user (AddUser u key) = Some (u, key)
as_add_user other = None

abbrev pub as_add_member : Action Digest → Option (Group × User)
as_add_member (AddMember g u) = Some (g, u)
as_add_member other = None

abbrev pub as_drop_member : Action Digest → Option (Group × User)
as_drop_member (DropMember g u) = Some (g, u)
as_drop_member other = None

abbrev pub as_set_key : Action Digest → Option (User × Key)
as_set_key (SetKey u key) = Some (u, key)
as_set_key other = None

-- what stands after the place of a change: the digest of an i-node for 1 and 2, nothing for 3, an entry for 4, a name
-- for 5
abbrev pub action : ℕ → Format (Action Digest)
action zero = variant (λ _. Remove) as_remove nothing
action (suc zero) = variant (λ inode. Make inode) as_make (raw 32)
action (suc (suc zero)) = variant (λ inode. Put inode) as_put (raw 32)
action (suc (suc (suc zero))) = variant (λ _. Remove) as_remove nothing
action (suc (suc (suc (suc zero)))) = variant (λ entry. Link entry) as_link named
action (suc (suc (suc (suc (suc n))))) = variant (λ old. Unlink old) as_unlink name

-- the fields after the kinds 1 to 5: whose i-number, which, and what is done there
abbrev pub placed_fields : ℕ → Format (Change Digest)
placed_fields k =
    mapped (λ (principal, (i_number, action)). record { principal = principal; i_number = i_number; action = action })
    (λ c. (c.principal, (c.i_number, c.action)))
    (pair principal (pair i_number (action k)))

-- where the change is one of the table, what its action has
abbrev pub in_table : {X : Type 0} → (Action Digest → Option X) → Change Digest → Option X
in_table from c = if (c.principal == 0) && (c.i_number == 1) then from c.action else None

-- The fields after the kinds 6 to 9, of changes of the table, counted from 0: a user and its key, or a group and a
-- user. Their place isn't written.
abbrev pub table_fields : ℕ → Format (Change Digest)
table_fields zero = variant (λ p. of_table (AddUser p.0 p.1)) (in_table as_add_user) (pair user key)
table_fields (suc zero) = variant (λ p. of_table (AddMember p.0 p.1)) (in_table as_add_member) (pair group user)
table_fields (suc (suc zero)) = variant (λ p. of_table (DropMember p.0 p.1)) (in_table as_drop_member) (pair group user)
table_fields (suc (suc (suc n))) = variant (λ p. of_table (SetKey p.0 p.1)) (in_table as_set_key) (pair user key)

-- the fields after the kind
abbrev pub fields : ℕ → Format (Change Digest)
fields zero = placed_fields 0
fields (suc zero) = placed_fields 1
fields (suc (suc zero)) = placed_fields 2
fields (suc (suc (suc zero))) = placed_fields 3
fields (suc (suc (suc (suc zero)))) = placed_fields 4
fields (suc (suc (suc (suc (suc zero))))) = placed_fields 5
fields (suc (suc (suc (suc (suc (suc n)))))) = table_fields n

abbrev pub kind_of : {C : Type 0} → Change C → ℕ
kind_of c = kind c.action

abbrev pub change : Format (Change Digest)
change = sized (uint_in w8 1 9) kind_of fields
