use Rattle.std.proofs.Common.{◌≡◌, take, drop}
use Rattle.reply_rules.specs.Rules.{above, all_show, above_show}
use Rattle.reply_rules.proofs.entries.above_show.Given as goal

abbrev pub invariant-loop-k : goal.invariant-loop-k
invariant-loop-k g l = all_show l.lists (take l.k (above l.lists)) l.rest (drop l.k (above l.lists)) ≡ above_show l.lists
