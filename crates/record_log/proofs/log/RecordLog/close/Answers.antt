use Rattle.std.proofs.Common.{ap}
use Rattle.record_log.specs.Records.{LogFile}
use Rattle.record_log.proofs.Lives.{same_call}
use Rattle.record_log.proofs.log.RecordLog.close.Goals as goal

pub returns-clause-step : goal.returns-clause-step
returns-clause-step g c = same_call c.args.self.file (g.S.Storage.history c.self.inside.storage) (ap (λ (l : LogFile). l.file) c.self.view_is)
