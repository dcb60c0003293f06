-- What is newest of the groups that an own operation raises.
-- The rules stand in docs/RULES.md.
use Rattle.std.specs.Prelude.{◌≡◌, true}
use Rattle.layout.specs.Types.{Group}
use Rattle.pending_list.specs.Groups.{raises}
use Rattle.reply_rules.specs.Lists.{Lists}
use Rattle.client_tree.specs.View.{View, comes_after}

-- the lists of a view
abbrev pub lists_in : View → Lists
lists_in x = record { structures = x.structures; others = x.others; own = x.own }

-- the own operation comes after the newest record of each group that it raises
abbrev pub OwnComesAfter : View → Type 0
OwnComesAfter x = (g : Group) → raises x.table g x.own ≡ true → comes_after x g x.own ≡ true
