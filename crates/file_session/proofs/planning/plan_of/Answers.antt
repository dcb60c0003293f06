use Rattle.std.proofs.Common.{refl, sym}
use Rattle.update_cert.specs.Change.{Remove}
use Rattle.commands.specs.Asked.{change_at}
use Rattle.file_session.proofs.planning.plan_of.Goals as goal

pub returns-in-Remove-clause-plan : goal.returns-in-Remove-clause-plan
returns-in-Remove-clause-plan g c = rw c.in-Remove.is (c.one.ensures.plan (change_at c.in-Remove.target Remove) (sym c.at.ensures) refl)
