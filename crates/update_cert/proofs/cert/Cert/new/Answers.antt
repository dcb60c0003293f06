use Rattle.std.proofs.Common.{None, arith, subst}
use Rattle.std.specs.Int.{w8}
use Rattle.std.specs.List.{All}
use Rattle.layout.specs.Laws.{listed_fits, rows_fit}
use Rattle.update_cert.specs.Change.{change}
use Rattle.update_cert.specs.Cert.{change_rows}
use Rattle.update_cert.proofs.cert.Cert.new.Goals as goal

pub invariant_of-result : goal.invariant_of-result
invariant_of-result g c =
    let all = subst (All change.Fits) c.deref.ensures.value c.changes_fit.ensures in
    let changes = listed_fits w8 16 change_rows c.args.changes.items (omega arith) (omega (arith, c.args.changes.ok.0, c.requires.few)) (rows_fit change None c.args.changes.items all) in
    (c.get.ensures.fits, (c.get-2.ensures.fits, (c.as_bytes-last.ensures.fits, changes)))
