use Rattle.std.proofs.Common.{◌≡◌, None, ap, subst, ◌∙◌}
use Rattle.std.proofs.lemmas.List.{take_all}
use Rattle.std.specs.Ordering.{nat_cmp}
use Rattle.layout.specs.Ascending.{Ascends}
use Rattle.pending_list.specs.Reply.{user_of}
use Rattle.reply_rules.specs.Lists.{Lists}
use Rattle.reply_check.proofs.lists.Lists.copies.Goals as goal

pub returns-clause-same : goal.returns-clause-same
returns-clause-same g c =
    let zs = c.args.self.now.structures in
    let items : c.deref-shown-items.result.now ≡ zs = c.deref-shown-items.ensures.value ∙ ap (λ (l : Lists). l.structures) c.self.view_is in
    let past = rw items at c.loop-shown-test.false in
    c.in_ok-reserve.ensures.items ∙ c.loop-shown.invariant ∙ take_all c.loop-shown.shown-index zs past

pub returns-clause-ascending : goal.returns-clause-ascending
returns-clause-ascending g c = subst (λ (l : Lists). Ascends nat_cmp user_of None l.structures) c.self.view_is c.self.invariant.0
