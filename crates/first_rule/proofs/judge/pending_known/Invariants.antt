use Rattle.std.proofs.Common.{◌≡◌, drop, map}
use Rattle.std.specs.List.{list_all}
use Rattle.reply_rules.specs.Rules.{is_known}
use Rattle.first_rule.proofs.judge.pending_known.Given as goal

abbrev pub invariant-loop-item : goal.invariant-loop-item
invariant-loop-item g l =
    list_all (is_known l.table) (map (λ i. i.plan) (drop l.item-index l.pending)) ≡ list_all (is_known l.table) (map (λ i. i.plan) l.pending)
