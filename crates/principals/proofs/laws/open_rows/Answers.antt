use Rattle.principals.proofs.OpenLaws.{at_most_one}
use Rattle.principals.proofs.laws.open_rows.Goals as goal

pub returns : goal.returns
returns c = record { one = at_most_one }
