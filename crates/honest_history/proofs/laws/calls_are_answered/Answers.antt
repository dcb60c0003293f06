use Rattle.honest_history.proofs.Answered.{commits_honest, each_commit, each_update, updates_honest}
use Rattle.honest_history.proofs.laws.calls_are_answered.Goals as goal

pub returns-clause-updates : goal.returns-clause-updates
returns-clause-updates c = each_update

pub returns-clause-commits : goal.returns-clause-commits
returns-clause-commits c = each_commit

pub returns-clause-updates_honest : goal.returns-clause-updates_honest
returns-clause-updates_honest c = updates_honest

pub returns-clause-commits_honest : goal.returns-clause-commits_honest
returns-clause-commits_honest c = commits_honest
