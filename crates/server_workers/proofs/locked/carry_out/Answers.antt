-- The log goes on being what the history leaves in it.
use Rattle.server_workers.proofs.Carrying.{log_goes_on}
use Rattle.server_workers.proofs.locked.carry_out.Goals as goal

pub returns-clause-log : goal.returns-clause-log
returns-clause-log g c = let e = c.answer_call.ensures in log_goes_on _ _ _ _ _ _ c.requires e.history e.log e.same e.log_same
