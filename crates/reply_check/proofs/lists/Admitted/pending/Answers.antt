use Rattle.std.proofs.Common.{◌≡◌, sym, subst, ◌∙◌}
use Rattle.std.specs.Prelude.{IsSomeAnd}
use Rattle.pending_list.specs.Reply.{Reply}
use Rattle.reply_rules.specs.Lists.{items, lists_of}
use Rattle.reply_check.proofs.ListsLaws.{with_lists}
use Rattle.reply_check.proofs.lists.Admitted.pending.Goals as goal

pub returns : goal.returns
returns g c =
    subst (λ (r : Reply). IsSomeAnd (lists_of r) (λ x. items x ≡ c.pending.result.now)) c.self.view_is
    (with_lists c.self.inside.reply (λ x. items x ≡ c.pending.result.now) c.self.invariant.1 (λ front own is. sym is ∙ sym c.pending.ensures))
