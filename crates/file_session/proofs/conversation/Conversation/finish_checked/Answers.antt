use Rattle.std.proofs.Common.{ap, sym, [], ◌∷◌}
use Rattle.std.specs.Prelude.{Err, Ok}
use Rattle.std.proofs.lemmas.Result.{err_from_is_err_and}
use Rattle.file_session.specs.Calls.{lost_of}
use Rattle.file_session.specs.Order.{CommitNew}
use Rattle.file_session.proofs.Runs.{commits_new, lacks_numbers, signed}
use Rattle.file_session.proofs.Turns.{went_to}
use Rattle.file_session.proofs.Operations.{ends_signed, ends_before}
use Rattle.file_session.proofs.conversation.Conversation.finish_checked.Goals as goal

pub returns-in_err-lost-in-Ok : goal.returns-in_err-lost-in-Ok
returns-in_err-lost-in-Ok g c =
    let p = err_from_is_err_and c.from_residual.result c.from_residual.ensures.1 in
    rw (p.1, p.2) (record {
      finished = ends_signed _ (lost_of c.sign.new.client ∷ []) (went_to (ap (λ text. CommitNew text (lost_of c.sign.new.client)) c.in-Ok.ensures.text) (signed _ _ _ _ _ c.in-Ok.ensures.leads)) (lacks_numbers _ _ _ _ _ c.in_err-lost-in-Ok.ensures.some c.in_err-lost-in-Ok.ensures.memory) c.in-Ok.ensures.unfinished;
      idle = tt;
      unfinished = c.in-Ok.ensures.unfinished;
      view = tt;
    })

pub returns-in_err-finish_signed-in-Ok : goal.returns-in_err-finish_signed-in-Ok
returns-in_err-finish_signed-in-Ok g c =
    let p = err_from_is_err_and c.from_residual-in_err-finish_signed-in-Ok.result c.from_residual-in_err-finish_signed-in-Ok.ensures.1 in
    let e = c.in_err-finish_signed-in-Ok.ensures in
    rw (p.1, p.2) (record {
      finished = ends_signed _ (lost_of c.sign.new.client ∷ []) (went_to (ap (λ text. CommitNew text (lost_of c.sign.new.client)) c.in-Ok.ensures.text) (signed _ _ _ _ _ c.in-Ok.ensures.leads)) (commits_new {X = Unit {0}} _ _ _ _ _ _ (Err _) e.went) e.unfinished;
      idle = tt;
      unfinished = e.unfinished;
      view = tt;
    })

pub returns-in_ok-finish_signed-in-Ok-clause-finished : goal.returns-in_ok-finish_signed-in-Ok-clause-finished
returns-in_ok-finish_signed-in-Ok-clause-finished g c =
    ends_signed _ (lost_of c.sign.new.client ∷ []) (went_to (ap (λ text. CommitNew text (lost_of c.sign.new.client)) c.in-Ok.ensures.text) (signed _ _ _ _ _ c.in-Ok.ensures.leads)) (commits_new {X = Unit {0}} _ _ _ _ _ _ (Ok tt) c.in_ok-finish_signed-in-Ok.ensures.went) (ap (λ l. l ∷ []) (sym c.in_ok-lost-in-Ok.ensures.lost))

pub returns-in-Err-clause-finished : goal.returns-in-Err-clause-finished
returns-in-Err-clause-finished g c = ends_before _ (signed _ _ _ _ _ c.in-Err.ensures.leads) tt
