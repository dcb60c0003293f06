use Rattle.std.proofs.Common.{◌≡◌, ◌+◌}
use Rattle.reply_rules.specs.Rules.{has_all}
use Rattle.reply_rules.proofs.records.has_all.Given as goal

abbrev pub invariant-loop-number : goal.invariant-loop-number
invariant-loop-number l = has_all (l.least + 1) l.number l.numbers ≡ has_all (l.least + 1) l.most l.numbers

abbrev pub decreases-loop-number : goal.decreases-loop-number
decreases-loop-number l = l.number
