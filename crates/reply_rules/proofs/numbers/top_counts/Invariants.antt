use Rattle.std.proofs.Common.{◌≡◌, true}
use Rattle.reply_rules.specs.Rules.{every_below, counts_at}
use Rattle.reply_rules.proofs.numbers.top_counts.Given as goal

abbrev pub invariant-loop-user : goal.invariant-loop-user
invariant-loop-user g l = every_below l.user (counts_at l.lists) ≡ true
