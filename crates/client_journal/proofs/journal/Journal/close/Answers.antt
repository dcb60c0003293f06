use Rattle.std.proofs.Common.{ap}
use Rattle.client_journal.specs.Records.{JournalFile}
use Rattle.client_journal.proofs.Lives.{same_call}
use Rattle.client_journal.proofs.journal.Journal.close.Goals as goal

pub returns-clause-step : goal.returns-clause-step
returns-clause-step g c = same_call c.args.self.file (g.D.Device.history c.self.inside.device) (ap (λ (j : JournalFile). j.file) c.self.view_is)
