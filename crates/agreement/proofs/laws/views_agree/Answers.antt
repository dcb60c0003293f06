use Rattle.agreement.proofs.Lines.{agreed, agreed_by_plans, ended, growing, numbered}
use Rattle.agreement.proofs.laws.views_agree.Goals as goal

pub returns-clause-numbered : goal.returns-clause-numbered
returns-clause-numbered c = numbered

pub returns-clause-ended : goal.returns-clause-ended
returns-clause-ended c = ended

pub returns-clause-growing : goal.returns-clause-growing
returns-clause-growing c = growing

pub returns-clause-agreed : goal.returns-clause-agreed
returns-clause-agreed c = agreed

pub returns-clause-planned : goal.returns-clause-planned
returns-clause-planned c = agreed_by_plans
