use Rattle.std.proofs.Common.{◌≡◌, drop}
use Rattle.reply_rules.specs.Rules.{each_once}
use Rattle.reply_rules.proofs.records.each_once.Given as goal

abbrev pub invariant-loop-i : goal.invariant-loop-i
invariant-loop-i l = each_once (drop l.i l.numbers) ≡ each_once l.numbers
