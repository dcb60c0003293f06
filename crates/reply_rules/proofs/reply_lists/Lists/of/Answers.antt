use Rattle.std.proofs.Common.{List, Some, ap, sym, ◌∙◌}
use Rattle.version_order.specs.Structure.{Structure}
use Rattle.pending_list.specs.declared.signed.Signed.{Signed}
use Rattle.reply_rules.specs.ListsLaws.{lists_are}
use Rattle.reply_rules.proofs.Above.{is_split}
use Rattle.reply_rules.proofs.reply_lists.Lists.of.Goals as goal

pub invariant_of-result : goal.invariant_of-result
invariant_of-result g c =
    is_split c.args.reply.now _ _ _ _ _ _ _ _ _ c.requires c.structures-structures.ensures.same c.pending-pending.ensures c.in_ok-own.ensures.cases.0 c.depth_of_top.ensures c.place_above-place.ensures.same c.split_at.ensures.front c.split_at.ensures.back c.top.ensures.same

pub returns : goal.returns
returns g c =
    let others = c.in_ok-own.others.now in
    let own = c.in_ok-own.own.now in
    ap (λ (zs : List (Signed Structure)). Some (record { structures = zs; others = others; own = own })) c.structures-structures.ensures.same
    ∙ sym (lists_are c.args.reply.now others own (sym c.pending-pending.ensures ∙ c.in_ok-own.ensures.cases.0))
