use Rattle.principals.proofs.LineLaws.{member_at, later_step}
use Rattle.principals.proofs.laws.membership.Goals as goal

pub returns-clause-at_version : goal.returns-clause-at_version
returns-clause-at_version c = member_at

pub returns-clause-earlier_stay : goal.returns-clause-earlier_stay
returns-clause-earlier_stay c = later_step
