use Rattle.std.proofs.Common.{◌≡◌, drop, map}
use Rattle.reply_rules.specs.Rules.{ascends, ascends_after}
use Rattle.reply_rules.proofs.lists.structures_ascend.Given as goal

abbrev pub invariant-loop-structure : goal.invariant-loop-structure
invariant-loop-structure g l =
    ascends_after l.before (map (λ z. z.value.plan.user) (drop l.structure-index l.structures)) ≡ ascends (map (λ z. z.value.plan.user) l.structures)
