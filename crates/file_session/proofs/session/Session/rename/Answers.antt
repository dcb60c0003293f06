use Rattle.std.proofs.Common.{◌∙◌}
use Rattle.file_session.proofs.Renames.{has_run, not_renamed, renamed}
use Rattle.file_session.proofs.session.Session.rename.Goals as goal

pub returns-then-not-is_there : goal.returns-then-not-is_there
returns-then-not-is_there g c =
    let e = c.run-first.ensures in
    not_renamed _ _ _ _ _ _ _ _ _ (has_run _ _ _ _ _ _ _ e.early e.early_client e.early_transport e.early_resumed e.ran) c.is_there.ensures c.if-not-is_there.true

pub returns : goal.returns
returns g c =
    let e = c.run-first.ensures in
    let f = c.run-answer.ensures in
    renamed _ _ _ _ _ _ _ _ _ _ _ _ _ _ _ (has_run _ _ _ _ _ _ _ e.early e.early_client e.early_transport e.early_resumed e.ran) c.is_there.ensures c.if-not-is_there.false
    (has_run _ _ _ _ _ _ _ f.early f.early_client f.early_transport f.early_resumed f.ran) c.told_of_drop.ensures (c.put_in.ensures ∙ c.take-resumed.ensures.value)
