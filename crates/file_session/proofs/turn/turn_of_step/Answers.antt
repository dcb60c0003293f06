use Rattle.std.proofs.Common.{ap}
use Rattle.file_session.specs.Order.{Store}
use Rattle.file_session.proofs.Operations.{texts_are}
use Rattle.file_session.proofs.turn.turn_of_step.Goals as goal

pub returns-in-Ok-Store-clause-next : goal.returns-in-Ok-Store-clause-next
returns-in-Ok-Store-clause-next g c = rw (c.in-Ok-Store.is, c.in-Ok-Store.field-0-is) (ap Store (texts_are c.in-Ok-Store.texts))
