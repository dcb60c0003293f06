use Rattle.std.proofs.Common.{rules}
use Rattle.client_steps.proofs.Answered.{signed}
use Rattle.client_steps.proofs.calls.sign.Goals as goal

pub returns-clause-signed : goal.returns-clause-signed
returns-clause-signed g c =
    let e = c.sign.ensures in
    signed c.args.client.now c.sign.new.self c.sign.result (search rules) e.signed e.gone e.text e.fits e.any_moment e.tried e.no_key e.no_leaf e.own e.rose e.others e.fails e.fits_device e.only e.err
