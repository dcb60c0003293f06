use Rattle.std.proofs.Common.{◌≡◌, drop}
use Rattle.principals.specs.Table.{key_by}
use Rattle.principals.proofs.table.key_by.Given as goal

abbrev pub invariant-loop-renewal : goal.invariant-loop-renewal
invariant-loop-renewal l = key_by l.version l.found (drop l.renewal-index l.later) ≡ key_by l.version l.fn.before l.later
