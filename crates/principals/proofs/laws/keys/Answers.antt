use Rattle.principals.proofs.KeyLaws.{later_keys}
use Rattle.principals.proofs.laws.keys.Goals as goal

pub returns : goal.returns
returns c = record { earlier_stay = later_keys }
