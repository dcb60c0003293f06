use Rattle.client_releases.proofs.UsedUp.{drawn_is_used_up}
use Rattle.client_releases.proofs.laws.drawn_is_used_up.Goals as goal

pub returns : goal.returns
returns c = drawn_is_used_up
