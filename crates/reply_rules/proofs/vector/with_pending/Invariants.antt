use Rattle.std.proofs.Common.{◌≡◌, ◌++◌, map, take}
use Rattle.reply_rules.proofs.vector.with_pending.Given as goal

abbrev pub invariant-loop-item : goal.invariant-loop-item
invariant-loop-item g l = l.made.items ≡ l.fn.plans.items ++ map (λ i. i.plan) (take l.item-index l.pending)
