-- Nobody has to believe this file: an aid of private contracts.
-- The lists that broke no rule last.
use Rattle.std.specs.Prelude.{Option, Some, None}
use Rattle.std.specs.Option.{option_map, option_map_or}
use Rattle.principals.specs.Table.{Table}
use Rattle.reply_rules.specs.Lists.{Lists}
use Rattle.reply_check.specs.Good.{Good}
use Rattle.client_verify.specs.State.{State, AcceptedView, Checked, Reading, Writing}

-- the lists of a reply under check that break no rule
abbrev pub good_in : Checked → Option Good
good_in (Reading r a) = None
good_in (Writing x a) = Some x

abbrev pub listed : Good → Lists × Table
listed x = (x.lists, x.table)

abbrev pub listed_in_view : AcceptedView → Lists × Table
listed_in_view v = (v.lists, v.table)

abbrev pub judged_before : Option Checked → Option AcceptedView → Option (Lists × Table)
judged_before (Some (Writing x a)) v = Some (listed x)
judged_before (Some (Reading r a)) v = option_map listed_in_view v
judged_before None v = option_map listed_in_view v

-- the lists that broke no rule last, with the table by which they were judged: of the accepted reply, of the one under
-- check, or of the accepted view
abbrev pub judged_last : State → Option (Lists × Table)
judged_last s = option_map_or (λ r. Some (r.lists, r.table)) s.accepted (judged_before s.checked s.view)
