use Rattle.std.proofs.Common.{◌≡◌, ◌&&◌, drop}
use Rattle.std.specs.List.{list_all}
use Rattle.reply_rules.specs.Rules.{names_certificate, names_last}
use Rattle.reply_rules.proofs.link.link_holds.Given as goal

abbrev pub invariant-loop-item : goal.invariant-loop-item
invariant-loop-item g l =
    list_all (λ i. names_certificate i && names_last l.lists i) (drop l.item-index l.items) ≡ list_all (λ i. names_certificate i && names_last l.lists i) l.items
