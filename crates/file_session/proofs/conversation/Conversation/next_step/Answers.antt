use Rattle.std.proofs.Common.{refl, subst, Option}
use Rattle.std.proofs.lemmas.Result.{err_from_is_err_and}
use Rattle.layout.specs.Types.{Bytes}
use Rattle.client_steps.specs.Anywhere.{on_ok, asked}
use Rattle.file_session.specs.Calls.{Takes, Leads}
use Rattle.file_session.proofs.Runs.{went_none}
use Rattle.file_session.proofs.Operations.{checks_on, checks_no_more}
use Rattle.file_session.proofs.Turns.{went_to}
use Rattle.file_session.proofs.conversation.Conversation.next_step.Goals as goal

pub returns-in_err-block-clause-went : goal.returns-in_err-block-clause-went
returns-in_err-block-clause-went g c =
    let p = err_from_is_err_and c.from_residual.result c.from_residual.ensures.1 in
    rw (p.1, p.2) (checks_no_more _ _ _ _ _ _ _ (went_none _) refl c.in_err-block.ensures)

pub returns-clause-went : goal.returns-clause-went
returns-clause-went g c =
    let P : Option Bytes → Type 0 = λ b. Leads c.args.self.now.client (Takes b (on_ok asked c.take.result)) c.take.new.client in
    went_to c.turn_of_step.ensures.next (checks_on _ _ _ _ _ _ _ _ _ (went_none _) refl c.in_ok-block.ensures (subst P c.text_of.ensures c.take.ensures.leads))

pub returns-clause-awaits : goal.returns-clause-awaits
returns-clause-awaits g c = c.turn_of_step.ensures.awaits c.take.new.client c.take.ensures.awaits

pub returns-clause-fewer : goal.returns-clause-fewer
returns-clause-fewer g c = c.turn_of_step.ensures.fewer c.args.self.now.client c.take.new.client c.take.ensures.fewer
