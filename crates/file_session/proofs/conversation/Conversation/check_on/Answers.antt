use Rattle.std.proofs.Common.{◌∙◌}
use Rattle.std.proofs.lemmas.Result.{err_from_is_err_and}
use Rattle.file_session.proofs.Runs.{went_then}
use Rattle.file_session.proofs.conversation.Conversation.check_on.Goals as goal

pub returns-in_err-next-clause-went : goal.returns-in_err-next-clause-went
returns-in_err-next-clause-went g c =
    let p = err_from_is_err_and c.from_residual.result c.from_residual.ensures.1 in
    rw (p.1, p.2) (went_then c.blocks-2.invariant.went c.in_err-next.ensures.went)

pub blocks-2-preserved : goal.blocks-2-preserved
blocks-2-preserved g c =
    let step = rw c.in-Asks.is at c.in_ok-next.ensures.went in
    record { went = went_then c.blocks-2.invariant.went step; waits = rw c.in-Asks.is at c.in_ok-next.ensures.awaits; phase = c.in_ok-next.ensures.phase ∙ c.blocks-2.invariant.phase }

pub returns-in-Ends-clause-went : goal.returns-in-Ends-clause-went
returns-in-Ends-clause-went g c =
    let step = rw c.in-Ends.is at c.in_ok-next.ensures.went in
    went_then c.blocks-2.invariant.went step
