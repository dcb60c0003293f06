use Rattle.std.proofs.Common.{◌≡◌, map, take}
use Rattle.reply_rules.proofs.vector.counted.Given as goal

abbrev pub invariant-loop-structure : goal.invariant-loop-structure
invariant-loop-structure g l = l.made.items ≡ map (λ z. z.value.plan) (take l.structure-index l.structures)
