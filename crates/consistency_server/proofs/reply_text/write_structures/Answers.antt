-- A row is written after the others.
use Rattle.std.proofs.Common.{refl, ap, subst, ◌∙◌}
use Rattle.std.specs.List.{All}
use Rattle.std.proofs.lemmas.List.{take_all}
use Rattle.std.proofs.lemmas.List.Elements.{All-nil, All-more}
use Rattle.layout.specs.Format.{rows_onto}
use Rattle.pending_list.specs.Reply.{signed_structure}
use Rattle.consistency_server.proofs.ReplyRows.{row_more}
use Rattle.consistency_server.proofs.reply_text.write_structures.Goals as goal

pub loop-structure-init : goal.loop-structure-init
unfolding rows_onto
loop-structure-init g c = (refl, All-nil signed_structure.Fits)

pub loop-structure-preserved : goal.loop-structure-preserved
loop-structure-preserved g c =
    let ss = c.args.structures.now in
    let i = c.loop-structure.structure-index in
    let x = c.structure-item.result in (
      c.in_ok-write_row.ensures.ok ∙ ap (λ t. signed_structure.onto t x) c.loop-structure.invariant.0 ∙ row_more signed_structure c.args.writer.now ss i x c.loop-structure-test.true c.structure-item.is,
      All-more signed_structure.Fits ss i x c.loop-structure-test.true c.loop-structure.invariant.1 (subst signed_structure.Fits c.structure-item.is c.in_ok-write_row.ensures.fits),
    )

pub returns-clause-fits : goal.returns-clause-fits
returns-clause-fits g c = subst (All signed_structure.Fits) (take_all c.loop-structure.structure-index c.args.structures.now c.loop-structure-test.false) c.loop-structure.invariant.1
