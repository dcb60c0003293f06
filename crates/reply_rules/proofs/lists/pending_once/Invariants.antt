use Rattle.std.proofs.Common.{◌≡◌, drop, map}
use Rattle.reply_rules.specs.Rules.{each_once}
use Rattle.reply_rules.proofs.lists.pending_once.Given as goal

abbrev pub invariant-loop-i : goal.invariant-loop-i
invariant-loop-i g l =
    each_once (map (λ i. i.plan.user) (drop l.i l.pending)) ≡ each_once (map (λ i. i.plan.user) l.pending)
