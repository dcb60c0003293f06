use Rattle.std.proofs.Common.{ap, map}
use Rattle.std.proofs.lemmas.Result.{err_from_is_err_and}
use Rattle.std.specs.Vec.{vec_items}
use Rattle.file_session.proofs.Runs.{went_then}
use Rattle.file_session.proofs.Operations.{goes_on, ends_before, hears, stores}
use Rattle.file_session.proofs.Tries.{none_left}
use Rattle.file_session.proofs.Turns.{went_to}
use Rattle.file_session.proofs.conversation.Conversation.finish_declared.Goals as goal

pub returns-in_err-reply-clause-finished : goal.returns-in_err-reply-clause-finished
returns-in_err-reply-clause-finished g c =
    let p = err_from_is_err_and c.from_residual.result c.from_residual.ensures.1 in
    rw (p.1, p.2) (ends_before _ (went_to (none_left _) c.in_err-reply.ensures.went) tt)

pub returns-in_err-texts-clause-finished : goal.returns-in_err-texts-clause-finished
returns-in_err-texts-clause-finished g c =
    let p = err_from_is_err_and c.from_residual-in_err-texts.result c.from_residual-in_err-texts.ensures.1 in
    rw (p.1, p.2) (ends_before _ (went_then (went_then c.in_ok-reply.ensures.went (hears _ _ _ _ _ _ c.text.ensures c.hear-first.ensures.leads)) c.in_err-texts.ensures.went) tt)

pub returns-in_err-store-clause-finished : goal.returns-in_err-store-clause-finished
returns-in_err-store-clause-finished g c =
    let p = err_from_is_err_and c.from_residual-in_err-store.result c.from_residual-in_err-store.ensures.1 in
    rw (p.1, p.2) (ends_before _ (stores _ _ _ _ _ (ap (map vec_items) c.deref.ensures.value)
    (went_then (went_then c.in_ok-reply.ensures.went (hears _ _ _ _ _ _ c.text.ensures c.hear-first.ensures.leads)) c.in_ok-texts.ensures.went) c.in_err-store.ensures.handed_out) tt)

pub returns-clause-finished : goal.returns-clause-finished
returns-clause-finished g c =
    goes_on (stores _ _ _ _ _ (ap (map vec_items) c.deref.ensures.value)
    (went_then (went_then c.in_ok-reply.ensures.went (hears _ _ _ _ _ _ c.text.ensures c.hear-first.ensures.leads)) c.in_ok-texts.ensures.went) c.in_ok-store.ensures.handed_out) c.finish_checked.ensures.finished
