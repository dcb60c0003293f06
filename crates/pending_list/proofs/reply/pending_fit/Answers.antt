use Rattle.std.proofs.Common.{subst}
use Rattle.std.specs.List.{All}
use Rattle.std.proofs.lemmas.List.{take_all}
use Rattle.std.proofs.lemmas.List.Elements.{All-more}
use Rattle.pending_list.specs.Reply.{pending_item}
use Rattle.pending_list.proofs.reply.pending_fit.Goals as goal

pub loop-item-preserved : goal.loop-item-preserved
loop-item-preserved g c =
    let fits : pending_item.Fits c.item-item.result = c.fits.ensures in
    All-more pending_item.Fits c.args.pending.now c.loop-item.item-index c.item-item.result c.loop-item-test.true c.loop-item.invariant (subst pending_item.Fits c.item-item.is fits)

pub returns : goal.returns
returns g c = subst (All pending_item.Fits) (take_all c.loop-item.item-index c.args.pending.now c.loop-item-test.false) c.loop-item.invariant
