use Rattle.std.proofs.Common.{arith, map, rules}
use Rattle.std.specs.Vec.{vec_items}
use Rattle.client_steps.proofs.Answered.{begun}
use Rattle.client_steps.proofs.calls.begin.Goals as goal

pub returns : goal.returns
returns g c =
    let e = c.begin.ensures in
    begun c.args.client.now c.begin.new.self c.args.changes.now (map vec_items c.args.laid.now) c.begin.result (search (rules, c.is_idle.ensures.yes)) (omega arith) (search rules)
    e.declared e.kept e.text e.fits e.any_moment e.tried e.no_leaf e.no_number e.rose e.others e.fails e.kept_device e.fits_device e.only e.err
