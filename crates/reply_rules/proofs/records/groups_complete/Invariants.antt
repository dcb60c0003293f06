use Rattle.std.proofs.Common.{◌≡◌, true}
use Rattle.std.specs.List.{list_all}
use Rattle.pending_list.specs.Groups.{groups_below}
use Rattle.reply_rules.specs.Rules.{group_complete}
use Rattle.reply_rules.proofs.records.groups_complete.Given as goal

abbrev pub invariant-loop-n : goal.invariant-loop-n
invariant-loop-n g l = list_all (group_complete l.table l.lists) (groups_below l.n) ≡ true
