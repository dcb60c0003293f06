use Rattle.std.proofs.Common.{arith, subst}
use Rattle.std.specs.List.{All}
use Rattle.pending_list.specs.Reply.{signed_structure, pending_item}
use Rattle.pending_list.specs.ReplyLaws.{reply_fits}
use Rattle.pending_list.proofs.reply.Reply.new.Goals as goal

pub invariant_of-result : goal.invariant_of-result
invariant_of-result g c =
    let structures = subst (All signed_structure.Fits) c.deref.ensures.value c.structures_fit.ensures in
    let pending = subst (All pending_item.Fits) c.deref-2.ensures.value c.pending_fit.ensures in
    reply_fits (record { structures = c.args.structures.items; pending = c.args.pending.items }) (omega (arith, c.args.structures.ok.0, c.requires.few_structures)) (omega (arith, c.args.pending.ok.0, c.requires.few_pending)) structures pending
