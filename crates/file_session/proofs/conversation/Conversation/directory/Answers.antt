use Rattle.std.proofs.lemmas.Result.{err_from_is_err_and}
use Rattle.file_session.proofs.Looks.{looked_next, looked_so}
use Rattle.file_session.proofs.Walks.{kind_no_directory}
use Rattle.file_session.proofs.conversation.Conversation.directory.Goals as goal

pub returns-in_default : goal.returns-in_default
returns-in_default g c =
    let e = c.in_ok-kind.ensures in
    record {
      looked = looked_so _ e.looked (λ tree is. kind_no_directory c.in_ok-kind.field-0 _ c.in_default.not-Directory is);
      phase = e.phase;
      view = e.view;
    }

pub returns-in_err-look-clause-looked : goal.returns-in_err-look-clause-looked
returns-in_err-look-clause-looked g c =
    let p = err_from_is_err_and c.from_residual-in_err-look.result c.from_residual-in_err-look.ensures.1 in
    rw (p.1, p.2) (looked_next _ c.in_ok-kind.ensures.looked c.in_err-look.ensures.looked (λ tree p r. tt))

pub returns-clause-looked : goal.returns-clause-looked
returns-clause-looked g c =
    looked_next _ c.in_ok-kind.ensures.looked c.in_ok-look.ensures.looked (λ tree p r. c.directory_seen.ensures tree _ _ r)
