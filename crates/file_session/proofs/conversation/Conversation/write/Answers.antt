use Rattle.std.proofs.lemmas.Result.{err_from_is_err_and}
use Rattle.file_session.proofs.Sessions.{wrote_by, wrote_none}
use Rattle.file_session.proofs.conversation.Conversation.write.Goals as goal

pub returns-in_err-leaves_suffice : goal.returns-in_err-leaves_suffice
returns-in_err-leaves_suffice g c =
    let p = err_from_is_err_and c.from_residual.result c.from_residual.ensures.1 in
    let e = c.in_err-leaves_suffice.ensures in
    rw (p.1, p.2) (record { wrote = wrote_none _ _ _ e.lacks e.no_leaf })

pub returns : goal.returns
returns g c = record { wrote = wrote_by c.operate.result c.in_ok-store.ensures.laid_out c.operate.ensures.operated }
