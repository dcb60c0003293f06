use Rattle.std.proofs.Common.{◌≡◌, drop}
use Rattle.reply_rules.specs.Rules.{greater, newest_in}
use Rattle.reply_rules.proofs.records.newest_in.Given as goal

abbrev pub invariant-loop-row : goal.invariant-loop-row
invariant-loop-row l = greater l.best (newest_in l.group (drop l.row-index l.records)) ≡ newest_in l.group l.records
