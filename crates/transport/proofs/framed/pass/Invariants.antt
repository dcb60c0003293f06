use Rattle.std.proofs.Common.{◌≡◌, ◌≤◌, None}
use Rattle.layout.specs.Format.{IsBytes}
use Rattle.transport.proofs.framed.pass.Given as goal

abbrev pub invariant-loop-turn : goal.invariant-loop-turn
invariant-loop-turn g l =
    (g.C.Connection.told l.connection ≡ None)
    × IsBytes l.frames
    × (g.C.Connection.fault_count l.initial.connection ≤ g.C.Connection.fault_count l.connection)
