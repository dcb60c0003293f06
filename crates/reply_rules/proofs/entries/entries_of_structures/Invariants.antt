use Rattle.std.proofs.Common.{◌≡◌, map, take}
use Rattle.reply_rules.specs.Rules.{entries_of}
use Rattle.reply_rules.proofs.entries.entries_of_structures.Given as goal

abbrev pub invariant-loop-structure : goal.invariant-loop-structure
invariant-loop-structure g l = l.made.items ≡ entries_of (map (λ z. z.value.plan) (take l.structure-index l.structures))
