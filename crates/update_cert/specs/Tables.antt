-- What an operation makes of the table of principals, said of the table alone.
use Rattle.std.specs.Prelude.{◌==◌, Bool, false, ◌&&◌, not, List, [], ◌∷◌, is_none, length, nat_lt, if◌then◌else◌}
use Rattle.std.specs.List.{list_any}
use Rattle.layout.specs.Types.{User, Version}
use Rattle.principals.specs.Table.{Table, lists_user, is_member_now, user_added, member_added, member_dropped, key_set, key_refused}
use Rattle.update_cert.specs.Change.{Action, Make, Put, Remove, Link, Unlink, AddUser, AddMember, DropMember, SetKey, Change}
use Rattle.update_cert.specs.World.{is_of_table}
use Rattle.update_cert.specs.Cert.{Cert}

-- an action changes this table, where user 0 does it in an operation of this number
abbrev pub alters : {C : Type 0} → Version → Action C → Table → Bool
alters number (Make new) t = false
alters number (Put new) t = false
alters number Remove t = false
alters number (Link entry) t = false
alters number (Unlink name) t = false
alters number (AddUser u key) t = not (lists_user t u)
alters number (AddMember g u) t = lists_user t u && (not (is_member_now t g u) && nat_lt (length t.rows) 65535)
alters number (DropMember g u) t = is_member_now t g u
alters number (SetKey u key) t = is_none (key_refused t u number)

-- what it makes of it then, in an operation of this number
abbrev pub table_becomes : {C : Type 0} → Version → Action C → Table → Table
table_becomes number (Make new) t = t
table_becomes number (Put new) t = t
table_becomes number Remove t = t
table_becomes number (Link entry) t = t
table_becomes number (Unlink name) t = t
table_becomes number (AddUser u key) t = user_added number u key t
table_becomes number (AddMember g u) t = member_added number g u t
table_becomes number (DropMember g u) t = member_dropped number g u t
table_becomes number (SetKey u key) t = key_set number u key t

-- a change of a user's operation of this number has effect on the table: user 0's alone
abbrev pub table_effect : {C : Type 0} → User → Version → Change C → Table → Bool
table_effect user number c t = (user == 0) && alters number c.action t

-- the table after a change of the user's operation of this number
abbrev pub table_after_change : {C : Type 0} → User → Version → Change C → Table → Table
table_after_change user number c t = if table_effect user number c t then table_becomes number c.action t else t

-- and after the changes, in turn
unfoldable pub table_after : {C : Type 0} → User → Version → List (Change C) → Table → Table
table_after user number [] t = t
table_after user number (c ∷ cs) t = table_after user number cs (table_after_change user number c t)

-- the operation may change the table: it is user 0's and has a change of it
abbrev pub may_change : Cert → Bool
may_change c = (c.user == 0) && list_any is_of_table c.changes
