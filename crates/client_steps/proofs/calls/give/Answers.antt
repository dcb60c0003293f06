use Rattle.std.proofs.Common.{rules}
use Rattle.std.specs.Option.{option_copied}
use Rattle.client_steps.proofs.Heard.{given_to}
use Rattle.client_steps.proofs.calls.give.Goals as goal

pub returns : goal.returns
returns g c =
    let e = c.give.ensures in
    given_to c.args.client.now c.give.new.self (option_copied c.args.block) c.give.result (search rules) c.is_bytes.ensures e.given e.held e.told e.only_memory e.err
