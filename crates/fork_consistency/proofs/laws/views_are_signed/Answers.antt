use Rattle.fork_consistency.proofs.Signed.{are_signed, changes_have_causes, groups_stand, users_stand}
use Rattle.fork_consistency.proofs.laws.views_are_signed.Goals as goal

pub returns-clause-signed : goal.returns-clause-signed
returns-clause-signed c = are_signed

pub returns-clause-users : goal.returns-clause-users
returns-clause-users c = users_stand

pub returns-clause-groups : goal.returns-clause-groups
returns-clause-groups c = groups_stand

pub returns-clause-causes : goal.returns-clause-causes
returns-clause-causes c = changes_have_causes
