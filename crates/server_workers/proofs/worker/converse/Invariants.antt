use Rattle.std.proofs.Common.{◌≡◌, ◌≤◌, ◌<◌, []}
use Rattle.std.specs.Prelude.{vec_len}
use Rattle.server_workers.specs.Conversation.{IsLater}
use Rattle.server_workers.specs.Conversing.{Conversing}
use Rattle.server_workers.proofs.worker.converse.Given as goal

abbrev pub invariant-loop : goal.invariant-loop
invariant-loop g l =
    Conversing (g.S.Serves.server l.receipt) (record { told = g.C.Connection.told l.initial.connection; answered = l.initial.tally.answered; waiting = [] })
    (record { told = g.C.Connection.told l.connection; answered = l.tally.answered; waiting = l.frames })
    × IsLater (g.S.Serves.server l.initial.receipt) (g.S.Serves.server l.receipt)
    × (l.tally.share.parts ≡ l.initial.tally.share.parts)
    × (0 < vec_len l.buffer)
    × (g.C.Connection.fault_count l.initial.connection ≤ g.C.Connection.fault_count l.connection)
