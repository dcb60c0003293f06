use Rattle.std.proofs.Common.{ap, map}
use Rattle.std.specs.Prelude.{Err, Ok}
use Rattle.std.specs.Vec.{vec_items}
use Rattle.std.proofs.lemmas.Result.{err_from_is_err_and}
use Rattle.file_session.proofs.Sessions.{carried_none, carried_not, looked_not, tells, writes_as}
use Rattle.file_session.proofs.conversation.Conversation.carry_out.Goals as goal

pub returns-in_err-leaves_suffice : goal.returns-in_err-leaves_suffice
returns-in_err-leaves_suffice g c =
    let p = err_from_is_err_and c.from_residual.result c.from_residual.ensures.1 in
    rw (p.1, p.2) (carried_none _ _ _ _ _ c.in_err-leaves_suffice.ensures.lacks c.in_err-leaves_suffice.ensures.no_leaf)

pub returns-in_err-look : goal.returns-in_err-look
returns-in_err-look g c =
    let p = err_from_is_err_and c.from_residual-in_err-look.result c.from_residual-in_err-look.ensures.1 in
    rw (p.1, p.2) (carried_not _ _ _ c.in_err-look.ensures.operated)

pub returns-in_err-answer : goal.returns-in_err-answer
returns-in_err-answer g c =
    let p = err_from_is_err_and c.from_residual-in_err-answer.result c.from_residual-in_err-answer.ensures.1 in
    rw (p.1, p.2) (looked_not _ c.in_ok-look.ensures.operated c.in_err-answer.ensures.planned)

pub returns-in_err-lost-in-Writes : goal.returns-in_err-lost-in-Writes
returns-in_err-lost-in-Writes g c =
    let p = err_from_is_err_and c.from_residual-in_err-lost-in-Writes.result c.from_residual-in_err-lost-in-Writes.ensures.1 in
    let planned = rw c.in-Writes.is at c.in_ok-answer.ensures.planned in
    rw (p.1, p.2) (writes_as c.in-Writes.field-0 _ _ (Err _) c.in_ok-look.ensures.operated planned c.deref.ensures.value (ap (map vec_items) c.deref-in-Writes.ensures.value) c.in_err-lost-in-Writes.ensures.wrote)

pub returns-in-Tells : goal.returns-in-Tells
returns-in-Tells g c =
    let planned = rw c.in-Tells.is at c.in_ok-answer.ensures.planned in
    tells _ c.in_ok-look.ensures.operated planned

pub returns-in_ok-lost-in-Writes : goal.returns-in_ok-lost-in-Writes
returns-in_ok-lost-in-Writes g c =
    let planned = rw c.in-Writes.is at c.in_ok-answer.ensures.planned in
    rw c.told_of_lost.ensures (writes_as c.in-Writes.field-0 _ _ (Ok _) c.in_ok-look.ensures.operated planned c.deref.ensures.value (ap (map vec_items) c.deref-in-Writes.ensures.value) c.in_ok-lost-in-Writes.ensures.wrote)
