use Rattle.std.proofs.Common.{◌≡◌, sym, ap, subst, ◌∙◌}
use Rattle.std.specs.Prelude.{IsSomeAnd}
use Rattle.pending_list.specs.Reply.{Reply}
use Rattle.reply_rules.specs.Lists.{lists_of}
use Rattle.reply_check.proofs.ListsLaws.{own_is_last}
use Rattle.reply_check.proofs.lists.Admitted.broken_by.Goals as goal

pub broken-requires-clause-own : goal.broken-requires-clause-own
broken-requires-clause-own g c =
    let r = c.self.inside.reply in
    let own = c.split.result.0.now in
    let split = subst (λ (x : Reply). IsSomeAnd (lists_of x) (λ y. (y.own ≡ own) × (y.others ≡ c.split.result.1.now))) (sym c.self.view_is) c.split.ensures in
    own_is_last r own c.split.result.1.now c.self.invariant.1 c.user.result split (c.user.ensures.same ∙ ap (λ p. p.user) c.plan.ensures)
