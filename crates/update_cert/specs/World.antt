-- The file system of all users and groups, and what an operation makes of it: its changes in turn, each with its effect
-- where it is permitted and fits what stands at its i-number then, else with none.
-- What changes do stands in docs/RULES.md.
use Rattle.std.specs.Prelude.{ℕ, ◌+◌, ◌/◌, ◌==◌, Bool, true, false, ◌&&◌, ◌||◌, not, List, [], ◌∷◌, length, Option, Some, None, is_none, is_some, nat_le, nat_lt, if◌then◌else◌}
use Rattle.layout.specs.Types.{Bytes, Group, INumber, Key, Principal, User, Version}
use Rattle.directory.specs.Directory.{Entry, target_of, linked, unlinked}
use Rattle.directory.specs.declared.directory.TheConstants.{MOST_ENTRIES}
use Rattle.principals.specs.Table.{Table, genesis as first_table, lists_user, is_member_now, user_added, member_added, member_dropped, key_set, key_refused}
use Rattle.update_cert.specs.Change.{Action, Make, Put, Remove, Link, Unlink, AddUser, AddMember, DropMember, SetKey, Change}

-- a file of these bytes, a directory of these entries, or the table of principals
pub data Content : Type 0 where
  File : Bytes → Content
  Directory : List Entry → Content
  Principals : Table → Content

-- what stands at each i-number of each principal, if anything does
abbrev pub Tree : Type 0
Tree = Principal → INumber → Option Content

-- at user 0's i-number 1 stands the table of principals, and at 2 the root directory
abbrev pub is_table : Principal → INumber → Bool
is_table p i = (p == 0) && (i == 1)

abbrev pub is_root : Principal → INumber → Bool
is_root p i = (p == 0) && (i == 2)

-- the tree of the beginning: user 0 is listed with this key and has the table and an empty root directory; nobody has
-- anything else
abbrev pub genesis : Key → Tree
genesis key p i = if is_table p i then Some (Principals (first_table key)) else if is_root p i then Some (Directory [])
    else None

-- whose operation it is, its number, and the groups of which this user is a member in the world before it
pub record Actor : Type 0 where
  pub user : User
  pub number : Version
  pub member : Group → Bool

-- ---- permitted: a user changes what is the user's own, or a group's of which the user is a member

abbrev pub permitted : {C : Type 0} → Actor → Change C → Bool
permitted actor c = (c.principal == actor.user) || (nat_le 64 c.principal && actor.member c.principal)

-- ---- fits

-- of a group, each user makes i-numbers of a range of 64 alone
abbrev pub may_make : User → Principal → INumber → Bool
may_make user p i = nat_lt p 64 || (i / 64 == user)

abbrev pub is_file : Option Content → Bool
is_file None = false
is_file (Some (File bytes)) = true
is_file (Some (Directory entries)) = false
is_file (Some (Principals table)) = false

-- a file, or an empty directory
abbrev pub is_removable : Option Content → Bool
is_removable None = false
is_removable (Some (File bytes)) = true
is_removable (Some (Directory entries)) = length entries == 0
is_removable (Some (Principals table)) = false

-- a directory without this name, that has room for one more
abbrev pub has_room : Bytes → Option Content → Bool
has_room name None = false
has_room name (Some (File bytes)) = false
has_room name (Some (Directory entries)) = not (is_some (target_of entries name))
    && nat_lt (length entries) MOST_ENTRIES
has_room name (Some (Principals table)) = false

-- a directory that has this name
abbrev pub has_name : Bytes → Option Content → Bool
has_name name None = false
has_name name (Some (File bytes)) = false
has_name name (Some (Directory entries)) = is_some (target_of entries name)
has_name name (Some (Principals table)) = false

-- a table that doesn't list this user
abbrev pub lacks_user : User → Option Content → Bool
lacks_user u None = false
lacks_user u (Some (File bytes)) = false
lacks_user u (Some (Directory entries)) = false
lacks_user u (Some (Principals table)) = not (lists_user table u)

-- a table that lists this user, who isn't a member of the group now, and that has room for one more row
abbrev pub lacks_member : Group → User → Option Content → Bool
lacks_member g u None = false
lacks_member g u (Some (File bytes)) = false
lacks_member g u (Some (Directory entries)) = false
lacks_member g u (Some (Principals table)) = lists_user table u
    && (not (is_member_now table g u) && nat_lt (length table.rows) 65535)

-- a table by which the user is a member of the group now
abbrev pub has_member : Group → User → Option Content → Bool
has_member g u None = false
has_member g u (Some (File bytes)) = false
has_member g u (Some (Directory entries)) = false
has_member g u (Some (Principals table)) = is_member_now table g u

-- a table in which the user takes one more key at this number
abbrev pub takes_key : User → Version → Option Content → Bool
takes_key u number None = false
takes_key u number (Some (File bytes)) = false
takes_key u number (Some (Directory entries)) = false
takes_key u number (Some (Principals table)) = is_none (key_refused table u number)

-- an action at an i-number of a principal, in this actor's operation, fits what stands there
abbrev pub action_fits : {C : Type 0} → Actor → Principal → INumber → Action C → Option Content → Bool
action_fits actor p i (Make new) content = not (is_some content) && may_make actor.user p i
action_fits actor p i (Put new) content = is_file content && not (is_table p i)
action_fits actor p i Remove content = is_removable content && not (is_table p i || is_root p i)
action_fits actor p i (Link entry) content = has_room entry.name content
action_fits actor p i (Unlink name) content = has_name name content
action_fits actor p i (AddUser u key) content = is_table p i && lacks_user u content
action_fits actor p i (AddMember g u) content = is_table p i && lacks_member g u content
action_fits actor p i (DropMember g u) content = is_table p i && has_member g u content
action_fits actor p i (SetKey u key) content = is_table p i && takes_key u actor.number content

abbrev pub fits : {C : Type 0} → Actor → Change C → Option Content → Bool
fits actor c content = action_fits actor c.principal c.i_number c.action content

-- the change has effect: it is permitted, and fits what stands at its i-number
unfoldable pub has_effect : {C : Type 0} → Actor → Change C → Option Content → Bool
has_effect actor c content = permitted actor c && fits actor c content

-- ---- after

-- the entries of a directory
abbrev pub entries_of : Option Content → List Entry
entries_of None = []
entries_of (Some (File bytes)) = []
entries_of (Some (Directory entries)) = entries
entries_of (Some (Principals table)) = []

-- the table that stands there
abbrev pub table_of : Option Content → Table
table_of None = record { users = []; rows = [] }
table_of (Some (File bytes)) = record { users = []; rows = [] }
table_of (Some (Directory entries)) = record { users = []; rows = [] }
table_of (Some (Principals table)) = table

-- what stands at the i-number of an action that has effect, in an operation of this number
abbrev pub becomes : Version → Action Content → Option Content → Option Content
becomes number (Make new) content = Some new
becomes number (Put new) content = Some new
becomes number Remove content = None
becomes number (Link entry) content = Some (Directory (linked (entries_of content) entry))
becomes number (Unlink name) content = Some (Directory (unlinked (entries_of content) name))
becomes number (AddUser u key) content = Some (Principals (user_added number u key (table_of content)))
becomes number (AddMember g u) content = Some (Principals (member_added number g u (table_of content)))
becomes number (DropMember g u) content = Some (Principals (member_dropped number g u (table_of content)))
becomes number (SetKey u key) content = Some (Principals (key_set number u key (table_of content)))

-- what stands at its i-number after the change
unfoldable pub content_after : Actor → Change Content → Option Content → Option Content
content_after actor c content = if has_effect actor c content then becomes actor.number c.action content else content

-- the tree after a change: all else is as before
abbrev pub after_change : Actor → Change Content → Tree → Tree
after_change actor c tree p i = if (p == c.principal) && (i == c.i_number) then content_after actor c (tree p i)
    else tree p i

-- the tree after the changes, in turn
unfoldable pub after : Actor → List (Change Content) → Tree → Tree
after actor [] tree = tree
after actor (c ∷ cs) tree = after actor cs (after_change actor c tree)

-- the numbers, counted from this one, of the changes among these that have no effect
unfoldable pub void_from : ℕ → Actor → (Change Content → Bool) → List (Change Content) → Tree → List ℕ
void_from n actor among [] tree = []
void_from n actor among (c ∷ cs) tree =
    if among c && not (has_effect actor c (tree c.principal c.i_number))
    then n ∷ void_from (n + 1) actor among cs (after_change actor c tree)
    else void_from (n + 1) actor among cs (after_change actor c tree)

-- the numbers, from 1, of the changes that have no effect
abbrev pub void : Actor → List (Change Content) → Tree → List ℕ
void actor cs tree = void_from 1 actor (λ _. true) cs tree

-- the action changes the table of principals
abbrev pub changes_table : {C : Type 0} → Action C → Bool
changes_table (Make new) = false
changes_table (Put new) = false
changes_table Remove = false
changes_table (Link entry) = false
changes_table (Unlink name) = false
changes_table (AddUser u key) = true
changes_table (AddMember g u) = true
changes_table (DropMember g u) = true
changes_table (SetKey u key) = true

-- the change is one of the table
abbrev pub is_of_table : {C : Type 0} → Change C → Bool
is_of_table c = changes_table c.action

-- the change is done in this principal's part: it is of the principal, and not one of the table
abbrev pub is_of : {C : Type 0} → Principal → Change C → Bool
is_of p c = (c.principal == p) && not (is_of_table c)

-- those of them that are done in one principal's part
abbrev pub void_of : Actor → Principal → List (Change Content) → Tree → List ℕ
void_of actor p cs tree = void_from 1 actor (is_of p) cs tree

-- and those that are of the table
abbrev pub void_of_table : Actor → List (Change Content) → Tree → List ℕ
void_of_table actor cs tree = void_from 1 actor is_of_table cs tree
