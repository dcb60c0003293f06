use Rattle.std.proofs.Common.{length, ap, arith}
use Rattle.record_log.proofs.Opened.{any_moment}
use Rattle.record_log.proofs.Lives.{open_call}
use Rattle.record_log.proofs.log.RecordLog.open.Goals as goal

pub returns-in-Ok-clause-any_moment : goal.returns-in-Ok-clause-any_moment
returns-in-Ok-clause-any_moment g c tells = any_moment (g.S.Storage.history c.args.storage) (g.S.Storage.history c.find_all.new.storage) (c.in-Ok.ensures.left tells)

pub returns-in-Err-clause-any_moment_err : goal.returns-in-Err-clause-any_moment_err
returns-in-Err-clause-any_moment_err g c tells = any_moment (g.S.Storage.history c.args.storage) (g.S.Storage.history c.find_all.new.storage) (c.in-Err.ensures.left tells)

pub returns-in-Ok-clause-step : goal.returns-in-Ok-clause-step
returns-in-Ok-clause-step g c tells =
    open_call (g.S.Storage.history c.args.storage) (g.S.Storage.history c.find_all.new.storage) (c.in-Ok.ensures.left tells) (c.in-Ok.ensures.kept tells) (λ few. omega (arith, ap length (c.in-Ok.ensures.new tells few)))

pub returns-in-Err-clause-step_err : goal.returns-in-Err-clause-step_err
returns-in-Err-clause-step_err g c tells =
    open_call (g.S.Storage.history c.args.storage) (g.S.Storage.history c.find_all.new.storage) (c.in-Err.ensures.left tells) (c.in-Err.ensures.kept tells) (c.in-Err.ensures.new_err tells)
