use Rattle.std.proofs.lemmas.Result.{err_from_is_err_and}
use Rattle.commands.specs.Answers.{answer_of}
use Rattle.client_steps.specs.Anywhere.{on_ok}
use Rattle.file_session.proofs.Sessions.{carried_to, ran, ran_not, ready_same}
use Rattle.file_session.proofs.session.Session.go.Goals as goal

pub returns-in_err-self : goal.returns-in_err-self
returns-in_err-self g c =
    let p = err_from_is_err_and c.from_residual.result c.from_residual.ensures.1 in
    rw (p.1, p.2) (ran_not _ _ _ _ _ _ _ _ c.requires.none c.in_err-self.ensures.unfinished c.in_err-self.ensures.finished)

pub returns : goal.returns
returns g c = ran _ _ _ _ _ _ _ _ _ (on_ok answer_of c.carry_out.result) c.in_ok-self.ensures.finished (carried_to (ready_same answer_of c.carry_out.result) (rw c.user-user.ensures at c.carry_out.ensures))
