use Rattle.std.proofs.Common.{arith, rules}
use Rattle.client_steps.proofs.Answered.{resigned_by}
use Rattle.client_steps.proofs.calls.resign.Goals as goal

pub returns : goal.returns
returns g c =
    let e = c.resign.ensures in
    resigned_by c.args.client.now c.resign.new.self c.args.key c.resign.result (search rules) (omega arith) e.resigned e.text e.any_moment e.tried e.no_leaf e.rose e.others e.fails e.only e.err
