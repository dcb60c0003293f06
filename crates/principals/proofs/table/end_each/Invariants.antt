use Rattle.std.proofs.Common.{◌≡◌}
use Rattle.principals.specs.Table.{ended}
use Rattle.principals.proofs.InTurn.{changed}
use Rattle.principals.proofs.table.end_each.Given as goal

abbrev pub invariant-loop-row : goal.invariant-loop-row
invariant-loop-row l = l.rows ≡ changed (ended l.number l.group l.user) l.row-index l.fn.rows
