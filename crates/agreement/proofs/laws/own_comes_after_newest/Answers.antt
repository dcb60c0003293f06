use Rattle.agreement.proofs.AfterNewest.{own_comes_after}
use Rattle.agreement.proofs.laws.own_comes_after_newest.Goals as goal

pub returns : goal.returns
returns c = own_comes_after
