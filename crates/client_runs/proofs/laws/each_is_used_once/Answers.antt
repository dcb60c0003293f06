use Rattle.client_runs.proofs.Once.{certificates_once, leaves_once, structures_once}
use Rattle.client_runs.proofs.ScriptKeys.{scripts_apart}
use Rattle.client_runs.proofs.laws.each_is_used_once.Goals as goal

pub returns-clause-leaves : goal.returns-clause-leaves
returns-clause-leaves c = leaves_once

pub returns-clause-scripts : goal.returns-clause-scripts
returns-clause-scripts c = scripts_apart

pub returns-clause-certificates : goal.returns-clause-certificates
returns-clause-certificates c = certificates_once

pub returns-clause-structures : goal.returns-clause-structures
returns-clause-structures c = structures_once
