use Rattle.honest_line.proofs.Genuine.{nothing_forged}
use Rattle.honest_line.proofs.laws.nothing_is_forged.Goals as goal

pub returns : goal.returns
returns c = nothing_forged
