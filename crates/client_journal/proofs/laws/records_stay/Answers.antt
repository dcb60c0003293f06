use Rattle.client_journal.proofs.Lives.{records_stay}
use Rattle.client_journal.proofs.laws.records_stay.Goals as goal

pub returns : goal.returns
returns c = records_stay
