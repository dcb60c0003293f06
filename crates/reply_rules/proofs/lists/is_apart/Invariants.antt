use Rattle.std.proofs.Common.{◌≡◌, ◌==◌, drop, map, not}
use Rattle.std.specs.List.{list_all}
use Rattle.reply_rules.proofs.lists.is_apart.Given as goal

abbrev pub invariant-loop-item : goal.invariant-loop-item
invariant-loop-item g l =
    list_all (λ n. not (l.user == n)) (map (λ i. i.plan.user) (drop l.item-index l.pending)) ≡ list_all (λ n. not (l.user == n)) (map (λ i. i.plan.user) l.pending)
