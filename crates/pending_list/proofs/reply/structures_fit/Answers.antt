use Rattle.std.proofs.Common.{subst}
use Rattle.std.specs.List.{All}
use Rattle.std.proofs.lemmas.List.{take_all}
use Rattle.std.proofs.lemmas.List.Elements.{All-more}
use Rattle.pending_list.specs.Reply.{signed_structure}
use Rattle.pending_list.specs.ReplyLaws.{structure_row_fits}
use Rattle.pending_list.proofs.reply.structures_fit.Goals as goal

pub loop-structure-preserved : goal.loop-structure-preserved
loop-structure-preserved g c =
    let fits : signed_structure.Fits c.structure-item.result = structure_row_fits c.structure-item.result c.plan-plan.ensures.fits c.as_bytes-signature.ensures.fits in
    All-more signed_structure.Fits c.args.structures.now c.loop-structure.structure-index c.structure-item.result c.loop-structure-test.true c.loop-structure.invariant (subst signed_structure.Fits c.structure-item.is fits)

pub returns : goal.returns
returns g c = subst (All signed_structure.Fits) (take_all c.loop-structure.structure-index c.args.structures.now c.loop-structure-test.false) c.loop-structure.invariant
