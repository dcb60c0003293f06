use Rattle.record_log.proofs.Chains.{not_both, one_telling}
use Rattle.record_log.proofs.Found.{either}
use Rattle.record_log.proofs.laws.files_tell_or_are_damaged.Goals as goal

pub returns-clause-either : goal.returns-clause-either
returns-clause-either c = either

pub returns-clause-not_both : goal.returns-clause-not_both
returns-clause-not_both c = not_both

pub returns-clause-one : goal.returns-clause-one
returns-clause-one c = one_telling
