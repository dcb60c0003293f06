-- Tables that come about by changes of one line, each of an operation of user 0's.
use Rattle.std.specs.Prelude.{◌≤◌, List, [], ◌∷◌, Option, filter, is_none, nat_le, if◌then◌else◌}
use Rattle.layout.specs.Types.{Key, Principal, User, Version}
use Rattle.principals.specs.declared.error.TableError.{TableError}
use Rattle.principals.specs.Table.{Table, user_added, key_set, member_added, member_dropped, user_refused, key_refused, member_refused, drop_refused}

-- what is done to a table
pub data TableChange : Type 0 where
  AddUser : User → Key → TableChange
  AddMember : Principal → User → TableChange
  DropMember : Principal → User → TableChange
  SetKey : User → Key → TableChange

-- by user 0's operation of this number
pub record Step : Type 0 where
  pub number : Version
  pub change : TableChange

-- why it has no effect, if it has none
abbrev pub refused : Version → TableChange → Table → Option TableError
refused number (AddUser user key) table = user_refused table user
refused number (AddMember group user) table = member_refused table group user
refused number (DropMember group user) table = drop_refused table group user
refused number (SetKey user key) table = key_refused table user number

abbrev pub effect : Version → TableChange → Table → Table
effect number (AddUser user key) table = user_added number user key table
effect number (AddMember group user) table = member_added number group user table
effect number (DropMember group user) table = member_dropped number group user table
effect number (SetKey user key) table = key_set number user key table

abbrev pub after_step : Step → Table → Table
after_step s table = if is_none (refused s.number s.change table) then effect s.number s.change table else table

abbrev pub after_line : List Step → Table → Table
after_line [] table = table
after_line (s ∷ ss) table = after_line ss (after_step s table)

-- the numbers never fall, and none is below this one
abbrev pub InOrder : Version → List Step → Type 0
InOrder least [] = Unit {0}
InOrder least (s ∷ ss) = (least ≤ s.number) × InOrder s.number ss

-- the steps up to a number of user 0's
abbrev pub up_to : Version → List Step → List Step
up_to version line = filter (λ s. nat_le s.number version) line
