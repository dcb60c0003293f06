use Rattle.std.proofs.Common.{◌≡◌, ◌+◌, ◌++◌, drop}
use Rattle.client_tree.specs.Lost.{lost_from}
use Rattle.client_tree.proofs.lost.lost_among.Given as goal

abbrev pub invariant-loop-place : goal.invariant-loop-place
invariant-loop-place g l = l.lost.items ++ lost_from (l.place + 1) l.fn.parts l.fn.table (drop l.place l.fn.changes) ≡ lost_from 1 l.fn.parts l.fn.table l.fn.changes
