use Rattle.std.proofs.Common.{take}
use Rattle.std.specs.List.{All}
use Rattle.update_cert.specs.Change.{change}
use Rattle.update_cert.proofs.cert.changes_fit.Given as goal

abbrev pub invariant-loop-change : goal.invariant-loop-change
invariant-loop-change g l = All change.Fits (take l.change-index l.changes)
