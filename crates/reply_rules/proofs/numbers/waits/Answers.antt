use Rattle.std.proofs.Common.{◌==◌, List, ap, sym, ◌∙◌}
use Rattle.std.specs.List.{list_any}
use Rattle.pending_list.specs.Reply.{PendingItem}
use Rattle.reply_rules.proofs.Above.{waits_by_items}
use Rattle.reply_rules.proofs.numbers.waits.Goals as goal

pub returns : goal.returns
returns g c =
    c.has_user.ensures
    ∙ ap (λ (is : List PendingItem). list_any (λ i. i.plan.user == c.args.user) is) c.waiting.ensures.waiting
    ∙ sym (waits_by_items c.args.lists.now c.args.user)
