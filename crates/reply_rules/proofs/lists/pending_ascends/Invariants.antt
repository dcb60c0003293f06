use Rattle.std.proofs.Common.{◌≡◌, drop, map}
use Rattle.reply_rules.specs.Rules.{ascends, ascends_after, depth}
use Rattle.reply_rules.proofs.lists.pending_ascends.Given as goal

abbrev pub invariant-loop-item : goal.invariant-loop-item
invariant-loop-item g l =
    ascends_after l.before (map (λ i. depth i.plan) (drop l.item-index l.pending)) ≡ ascends (map (λ i. depth i.plan) l.pending)
