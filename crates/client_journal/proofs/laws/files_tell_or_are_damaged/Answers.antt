use Rattle.client_journal.proofs.Chains.{not_both, one_telling}
use Rattle.client_journal.proofs.Found.{either}
use Rattle.client_journal.proofs.laws.files_tell_or_are_damaged.Goals as goal

pub returns-clause-either : goal.returns-clause-either
returns-clause-either c = either

pub returns-clause-not_both : goal.returns-clause-not_both
returns-clause-not_both c = not_both

pub returns-clause-one : goal.returns-clause-one
returns-clause-one c = one_telling
