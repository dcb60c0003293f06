use Rattle.std.proofs.Common.{length, ap, arith}
use Rattle.client_journal.proofs.Opened.{any_moment}
use Rattle.client_journal.proofs.Lives.{open_call}
use Rattle.client_journal.proofs.Reached.{ended}
use Rattle.client_journal.proofs.journal.Journal.open.Goals as goal

pub returns-in-Ok-clause-records : goal.returns-in-Ok-clause-records
returns-in-Ok-clause-records g c =
    let ends = c.in-Ok.ensures.ready.ends in
    let told = ended (g.D.Device.history c.find_end.new.device).now.text c.in-Ok.end.gate c.in-Ok.end.phase ends.reaches ends.shut in
    (ends.reaches.records, c.in-Ok.ensures.tells ends.reaches.records told, told)

pub returns-in-Ok-clause-any_moment : goal.returns-in-Ok-clause-any_moment
returns-in-Ok-clause-any_moment g c = any_moment (g.D.Device.history c.args.device) (g.D.Device.history c.find_end.new.device) c.in-Ok.ensures.left

pub returns-in-Err-clause-any_moment_err : goal.returns-in-Err-clause-any_moment_err
returns-in-Err-clause-any_moment_err g c = any_moment (g.D.Device.history c.args.device) (g.D.Device.history c.find_end.new.device) c.in-Err.ensures.left

pub returns-in-Ok-clause-step : goal.returns-in-Ok-clause-step
returns-in-Ok-clause-step g c =
    open_call (g.D.Device.history c.args.device) (g.D.Device.history c.find_end.new.device) c.in-Ok.ensures.left c.in-Ok.ensures.kept (λ few. omega (arith, ap length (c.in-Ok.ensures.new few)))

pub returns-in-Err-clause-step_err : goal.returns-in-Err-clause-step_err
returns-in-Err-clause-step_err g c =
    open_call (g.D.Device.history c.args.device) (g.D.Device.history c.find_end.new.device) c.in-Err.ensures.left c.in-Err.ensures.kept c.in-Err.ensures.new_err
