use Rattle.release_runs.proofs.Runs.{certificates_once, identifiers_once, leaves_once, structures_once}
use Rattle.release_runs.proofs.laws.each_is_used_once.Goals as goal

pub returns-clause-leaves : goal.returns-clause-leaves
returns-clause-leaves c = leaves_once

pub returns-clause-certificates : goal.returns-clause-certificates
returns-clause-certificates c = certificates_once

pub returns-clause-structures : goal.returns-clause-structures
returns-clause-structures c = structures_once

pub returns-clause-identifiers : goal.returns-clause-identifiers
returns-clause-identifiers c = identifiers_once
