use Rattle.std.proofs.Common.{◌<◌, rules, arith}
use Rattle.std.specs.Int.{w32}
use Rattle.layout.specs.Laws.{in_range_fits}
use Rattle.version_order.proofs.Recording.{fits_set}
use Rattle.version_order.proofs.structure.GroupRecords.set.Goals as goal

pub invariant_of-self : goal.invariant_of-self
invariant_of-self g c =
    let small : c.args.state.table < 4294967296 = search rules in
    let table = in_range_fits w32 0 4294967295 c.args.state.table (omega (arith, small)) (omega arith) (omega (arith, small)) in
    fits_set c.put.result c.args.state c.self.inside.records.items c.put.new.records.items
    (c.fits.ensures.group, (c.fits.ensures.version, (table, c.fits.ensures.handle)))
    c.self.invariant c.put.ensures.ok c.put.ensures.err
