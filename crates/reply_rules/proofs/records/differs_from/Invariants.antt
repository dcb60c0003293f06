use Rattle.std.proofs.Common.{◌≡◌, drop}
use Rattle.std.specs.List.{list_all}
use Rattle.reply_rules.specs.Rules.{differ}
use Rattle.reply_rules.proofs.records.differs_from.Given as goal

abbrev pub invariant-loop-other : goal.invariant-loop-other
invariant-loop-other g l = list_all (differ l.z) (drop l.other-index l.others) ≡ list_all (differ l.z) l.others
