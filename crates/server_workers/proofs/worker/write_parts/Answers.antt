-- The head, and then the payload.
use Rattle.std.proofs.Common.{◌≡◌, ◌++◌, ap, ◌∙◌, List, ℕ}
use Rattle.wire.specs.Frame.{frame, reply_body}
use Rattle.server_workers.proofs.Parts.{first_err, second_err}
use Rattle.server_workers.proofs.worker.write_parts.Goals as goal

pub returns-in_err-write-clause-err : goal.returns-in_err-write-clause-err
returns-in_err-write-clause-err g c =
    first_err c.from_residual.result _ _ _ _ _ c.head.ensures c.in_err-write.ensures.err

pub returns-clause-err : goal.returns-clause-err
returns-clause-err g c =
    let is : c.head.result ++ c.payload.result.now ≡ frame.spell (reply_body c.args.reply.now.status c.args.reply.now.payload)
    = ap (λ (t : List ℕ). c.head.result ++ t) c.payload.ensures.same ∙ c.head.ensures in
    second_err c.write-2.result _ _ _ _ _ _ is c.in_ok-write.ensures.ok c.write-2.ensures.err
