use Rattle.std.proofs.Common.{◌≡◌, take}
use Rattle.client_runs.proofs.signing.copies.Given as goal

abbrev pub invariant-loop-shown : goal.invariant-loop-shown
invariant-loop-shown g l = l.copies.items ≡ take l.shown-index l.structures
