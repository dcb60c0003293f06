use Rattle.std.proofs.Common.{◌≤◌, length}
use Rattle.layout.specs.Format.{IsBytes}
use Rattle.transport.proofs.Reading.{Reading}
use Rattle.transport.proofs.framed.receive.Given as goal

abbrev pub invariant-loop-turn : goal.invariant-loop-turn
invariant-loop-turn g l =
    Reading (g.C.Connection.told l.initial.connection) (g.C.Connection.told l.connection) l.initial.frames l.frames
    × IsBytes l.frames
    × (l._turn ≤ length l.frames)
    × (l._turn ≤ 2097156)
    × (g.C.Connection.fault_count l.initial.connection ≤ g.C.Connection.fault_count l.connection)
