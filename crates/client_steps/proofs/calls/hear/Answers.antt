use Rattle.std.proofs.Common.{rules}
use Rattle.client_steps.proofs.Heard.{heard}
use Rattle.client_steps.proofs.calls.hear.Goals as goal

pub returns : goal.returns
returns g c =
    let e = c.on_reply.ensures in
    heard c.args.client.now c.on_reply.new.self c.args.text.now c.on_reply.result (search rules) c.are_bytes.ensures e.judged e.held e.only_memory e.err
