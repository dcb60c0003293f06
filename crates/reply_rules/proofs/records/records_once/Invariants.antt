use Rattle.std.proofs.Common.{◌≡◌, drop}
use Rattle.reply_rules.specs.Rules.{records_once}
use Rattle.reply_rules.proofs.records.records_once.Given as goal

abbrev pub invariant-loop-i : goal.invariant-loop-i
invariant-loop-i g l = records_once (drop l.i l.structures) ≡ records_once l.structures
