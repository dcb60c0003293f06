use Rattle.std.proofs.Common.{[]}
use Rattle.kept_server.proofs.Appends.{at_least, opened}
use Rattle.kept_server.proofs.keeper.Keeper.new.Goals as goal

pub invariant_of-result : goal.invariant_of-result
invariant_of-result g c = λ _. rw (c.requires.0, c.requires.1) (at_least g.B.ServerKey.start [] g.B.ServerKey.start (opened g.B.ServerKey.start), λ _. opened g.B.ServerKey.start)
