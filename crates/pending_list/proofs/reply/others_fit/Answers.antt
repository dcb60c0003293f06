use Rattle.std.proofs.Common.{[], ◌∷◌, sym, ap, subst}
use Rattle.std.specs.Prelude.{map}
use Rattle.std.specs.List.{All}
use Rattle.std.proofs.lemmas.List.{take_all}
use Rattle.std.proofs.lemmas.List.Elements.{All-nil, All-cons, All-append}
use Rattle.pending_list.specs.Reply.{pending_item}
use Rattle.pending_list.proofs.Rows.{seen_more}
use Rattle.pending_list.proofs.reply.others_fit.Goals as goal

pub loop-other-preserved : goal.loop-other-preserved
loop-other-preserved g c =
    let item = g.H.HasItem.item in
    let fits : pending_item.Fits (item c.other-item.result) = subst pending_item.Fits c.item.ensures c.fits.ensures in
    subst (All pending_item.Fits) (sym (seen_more item c.args.others.now c.loop-other.other-index c.other-item.result c.loop-other-test.true c.other-item.is))
    (All-append pending_item.Fits (map item _) (item c.other-item.result ∷ []) c.loop-other.invariant (All-cons pending_item.Fits (item c.other-item.result) [] fits (All-nil pending_item.Fits)))

pub returns : goal.returns
returns g c = subst (All pending_item.Fits) (ap (map g.H.HasItem.item) (take_all c.loop-other.other-index c.args.others.now c.loop-other-test.false)) c.loop-other.invariant
