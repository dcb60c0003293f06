use Rattle.std.proofs.Common.{◌≡◌, drop}
use Rattle.reply_rules.specs.Rules.{each_has_next_vector, top_vector}
use Rattle.reply_rules.proofs.vector.vectors_follow.Given as goal

abbrev pub invariant-loop-item : goal.invariant-loop-item
invariant-loop-item g l = each_has_next_vector l.table l.next (drop l.item-index l.above) ≡ each_has_next_vector l.table (top_vector l.lists) l.above
