use Rattle.std.proofs.Common.{◌∙◌}
use Rattle.std.proofs.lemmas.Result.{err_from_is_err_and}
use Rattle.file_session.proofs.Looks.{looked_next, looked_so}
use Rattle.file_session.proofs.conversation.Conversation.answer.Goals as goal

pub returns-in-Ok-Ends-clause-looked : goal.returns-in-Ok-Ends-clause-looked
returns-in-Ok-Ends-clause-looked g c =
    let first = rw c.in-Ok-Ends.field-0-is at c.in-Ok-Ends.ensures.looked in
    looked_so _ first (λ tree is. is)

pub blocks-2-init : goal.blocks-2-init
blocks-2-init g c =
    let e = c.in-Ok-Asks.ensures in
    let first = rw c.in-Ok-Asks.field-0-is at e.looked in
    record { looked = looked_so _ first (λ tree is. tt); waits = rw c.in-Ok-Asks.field-0-is at e.awaits; phase = e.phase; view = e.view }

pub returns-in_err-next-clause-looked : goal.returns-in_err-next-clause-looked
returns-in_err-next-clause-looked g c =
    let p = err_from_is_err_and c.from_residual.result c.from_residual.ensures.1 in
    let i = c.blocks-2.invariant in
    rw (p.1, p.2) (looked_next _ i.looked (c.in_err-next.ensures.looked c.args.question i.waits) (λ tree p r. tt))

pub blocks-2-preserved : goal.blocks-2-preserved
blocks-2-preserved g c =
    let i = c.blocks-2.invariant in
    let e = c.in_ok-next.ensures in
    let step = rw c.in-Asks.is at e.looked c.args.question i.waits in
    record { looked = looked_next _ i.looked step (λ tree p r. tt); waits = rw c.in-Asks.is at e.awaits c.args.question i.waits; phase = e.phase ∙ i.phase; view = e.view }

pub returns-in-Ends-clause-looked : goal.returns-in-Ends-clause-looked
returns-in-Ends-clause-looked g c =
    let i = c.blocks-2.invariant in
    let step = rw c.in-Ends.is at c.in_ok-next.ensures.looked c.args.question i.waits in
    looked_next _ i.looked step (λ tree p r. r)
