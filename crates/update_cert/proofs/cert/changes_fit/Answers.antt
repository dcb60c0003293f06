use Rattle.std.proofs.Common.{subst}
use Rattle.std.specs.List.{All}
use Rattle.std.proofs.lemmas.List.{take_all}
use Rattle.std.proofs.lemmas.List.Elements.{All-more}
use Rattle.update_cert.specs.Change.{change}
use Rattle.update_cert.proofs.cert.changes_fit.Goals as goal

pub loop-change-preserved : goal.loop-change-preserved
loop-change-preserved g c =
    let fits : change.Fits c.change-item.result = c.principal-principal.ensures.fits in
    All-more change.Fits c.args.changes.now c.loop-change.change-index c.change-item.result c.loop-change-test.true c.loop-change.invariant (subst change.Fits c.change-item.is fits)

pub returns : goal.returns
returns g c = subst (All change.Fits) (take_all c.loop-change.change-index c.args.changes.now c.loop-change-test.false) c.loop-change.invariant
