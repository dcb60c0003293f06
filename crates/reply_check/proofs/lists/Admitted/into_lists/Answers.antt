use Rattle.std.proofs.Common.{◌≡◌, ◌++◌, ◌∷◌, [], List, Some, None, ap, subst, sym, ◌∙◌}
use Rattle.std.specs.Ordering.{nat_cmp}
use Rattle.layout.specs.Ascending.{Ascends}
use Rattle.version_order.specs.Structure.{Structure}
use Rattle.pending_list.specs.declared.signed.Signed.{Signed}
use Rattle.pending_list.specs.Reply.{Reply, user_of}
use Rattle.reply_rules.specs.Lists.{lists_of}
use Rattle.reply_rules.specs.ListsLaws.{lists_are}
use Rattle.reply_check.specs.Verified.{AreSupers}
use Rattle.reply_check.proofs.Judging.{lists_ascend}
use Rattle.reply_check.proofs.ListsLaws.{ascend}
use Rattle.reply_check.proofs.VerifiedLaws.{reply_supers}
use Rattle.reply_check.proofs.lists.Admitted.into_lists.Goals as goal

pub invariant_of-result : goal.invariant_of-result
invariant_of-result g c =
    let r = c.self.inside.reply in
    let others = c.pop.new.self.items in
    let own = c.in-Some.own in
    let is : r.pending ≡ others ++ own ∷ [] = sym c.into_parts-structures.ensures.pending ∙ c.in-Some.ensures.items in (
      subst (Ascends nat_cmp user_of None) (sym c.into_parts-structures.ensures.structures) (ascend r.structures (lists_ascend r c.self.invariant.0)),
      subst (λ (zs : List (Signed Structure)). AreSupers (record { structures = zs; others = others; own = own }) c.self.inside.pinned) (sym c.into_parts-structures.ensures.structures)
          (reply_supers r c.self.inside.pinned others own is c.self.invariant.2),
    )

pub returns : goal.returns
returns g c =
    let r = c.self.inside.reply in
    let others = c.pop.new.self.items in
    let own = c.in-Some.own in
    let is : r.pending ≡ others ++ own ∷ [] = sym c.into_parts-structures.ensures.pending ∙ c.in-Some.ensures.items in
    ap (λ (x : Reply). lists_of x) (sym c.self.view_is) ∙ lists_are r others own is
    ∙ ap (λ (zs : List (Signed Structure)). Some (record { structures = zs; others = others; own = own })) (sym c.into_parts-structures.ensures.structures)
