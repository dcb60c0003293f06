use Rattle.std.proofs.Common.{rules}
use Rattle.std.specs.Option.{option_copied}
use Rattle.client_steps.proofs.Heard.{taken}
use Rattle.client_steps.proofs.calls.take.Goals as goal

pub returns : goal.returns
returns g c =
    let e = c.on_block.ensures in
    taken c.args.client.now c.on_block.new.self (option_copied c.args.block) c.on_block.result (search rules) c.is_bytes.ensures e.handed e.held e.told e.only_memory e.err
