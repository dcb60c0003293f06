use Rattle.std.proofs.Common.{Ok, Err, refl}
use Rattle.commands.specs.Answers.{answer_of}
use Rattle.file_session.proofs.Tells.{told, told_not}
use Rattle.file_session.proofs.session.Session.tell.Goals as goal

pub returns-in-Ok-clause-told : goal.returns-in-Ok-clause-told
returns-in-Ok-clause-told g c = λ early can.
    (Ok (answer_of c.in-Ok.answer), told _ _ _ _ _ c.in-Ok.answer (c.in-Ok.ensures.planned c.args.self.now.conversation.client.user), refl)

pub returns-in-Err-clause-told : goal.returns-in-Err-clause-told
returns-in-Err-clause-told g c = λ early can.
    (Err c.in-Err.stop, told_not _ _ _ _ _ c.in-Err.stop (c.in-Err.ensures.planned c.args.self.now.conversation.client.user), c.told.ensures)
