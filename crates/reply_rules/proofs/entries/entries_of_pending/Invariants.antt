use Rattle.std.proofs.Common.{◌≡◌, map, take}
use Rattle.reply_rules.specs.Rules.{entries_of}
use Rattle.reply_rules.proofs.entries.entries_of_pending.Given as goal

abbrev pub invariant-loop-item : goal.invariant-loop-item
invariant-loop-item g l = l.made.items ≡ entries_of (map (λ i. i.plan) (take l.item-index l.items))
