use Rattle.std.proofs.Common.{ap}
use Rattle.std.proofs.lemmas.Result.{err_from_is_err_and}
use Rattle.file_session.specs.Order.{committed}
use Rattle.file_session.proofs.Runs.{went_then, told}
use Rattle.file_session.proofs.Turns.{went_to}
use Rattle.file_session.proofs.Operations.{committed_not, sends}
use Rattle.file_session.proofs.conversation.Conversation.finish_signed.Goals as goal

pub returns-in_err-status-clause-went : goal.returns-in_err-status-clause-went
returns-in_err-status-clause-went g c =
    let p = err_from_is_err_and c.from_residual.result c.from_residual.ensures.1 in
    rw (p.1, p.2) (sends _ _ _ _ _ _ c.signed.ensures c.in_err-status.ensures)

pub returns-in-Ok-clause-went : goal.returns-in-Ok-clause-went
returns-in-Ok-clause-went g c =
    went_to (ap committed c.in-Ok.is) (went_then (sends _ _ _ _ _ _ c.signed.ensures c.in_ok-status.ensures) (told _ _ _ _ c.tell.ensures.leads))

pub returns-in_default : goal.returns-in_default
returns-in_default g c =
    record {
      went = went_to (committed_not _ c.in_default.not-Ok) (went_then (sends _ _ _ _ _ _ c.signed.ensures c.in_ok-status.ensures) (told _ _ _ _ c.tell.ensures.leads));
      idle = tt;
      unfinished = c.tell.ensures.unfinished c.in_default.not-Ok;
      view = c.tell.ensures.view;
    }
