use Rattle.std.proofs.Common.{◌≡◌, drop, map}
use Rattle.std.specs.List.{list_all}
use Rattle.reply_rules.specs.Rules.{is_next}
use Rattle.reply_rules.proofs.numbers.pending_next.Given as goal

abbrev pub invariant-loop-item : goal.invariant-loop-item
invariant-loop-item g l =
    list_all (is_next l.lists) (map (λ i. i.plan) (drop l.item-index l.pending)) ≡ list_all (is_next l.lists) (map (λ i. i.plan) l.pending)
