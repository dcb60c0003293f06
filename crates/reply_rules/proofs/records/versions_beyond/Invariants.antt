use Rattle.std.proofs.Common.{◌≡◌, take}
use Rattle.reply_rules.specs.Rules.{versions_beyond}
use Rattle.reply_rules.proofs.records.versions_beyond.Given as goal

abbrev pub invariant-loop-item : goal.invariant-loop-item
invariant-loop-item g l = l.versions.items ≡ versions_beyond l.table l.group l.newest (take l.item-index l.items)
