use Rattle.std.proofs.Common.{◌≡◌, ◌≤◌, None}
use Rattle.transport.proofs.framed.go_ahead.Given as goal

abbrev pub invariant-loop-place : goal.invariant-loop-place
invariant-loop-place g l =
    (g.C.Connection.told l.connection ≡ None)
    × (g.C.Connection.fault_count l.initial.connection ≤ g.C.Connection.fault_count l.connection)
