use Rattle.client_runs.proofs.OfUsers.{runs_are_steps, steps_are_runs}
use Rattle.client_runs.proofs.laws.users_steps_are_runs.Goals as goal

pub returns-clause-runs : goal.returns-clause-runs
returns-clause-runs c = steps_are_runs

pub returns-clause-steps : goal.returns-clause-steps
returns-clause-steps c = runs_are_steps
