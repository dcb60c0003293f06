use Rattle.std.proofs.Common.{◌≡◌, drop}
use Rattle.reply_rules.specs.Rules.{greater, newest}
use Rattle.reply_rules.proofs.records.newest.Given as goal

abbrev pub invariant-loop-structure : goal.invariant-loop-structure
invariant-loop-structure g l = greater l.best (newest l.group (drop l.structure-index l.structures)) ≡ newest l.group l.structures
