use Rattle.std.proofs.Common.{◌≡◌, drop, map}
use Rattle.std.specs.List.{list_all}
use Rattle.reply_rules.specs.Rules.{is_known}
use Rattle.first_rule.proofs.judge.structures_known.Given as goal

abbrev pub invariant-loop-structure : goal.invariant-loop-structure
invariant-loop-structure g l =
    list_all (is_known l.table) (map (λ z. z.value.plan) (drop l.structure-index l.structures)) ≡ list_all (is_known l.table) (map (λ z. z.value.plan) l.structures)
