-- What an exchange comes to, by the body of the frame that comes back: a reply is a known status, with a payload where
-- it is Ok alone. What is no reply cuts a session off.
use Rattle.std.specs.Prelude.{Option, Some, None, Result, Ok, Err}
use Rattle.layout.specs.Types.{Bytes}
use Rattle.wire.specs.Frame.{reply_of}
use Rattle.wire.specs.declared.kinds.Status.{Status}
use Rattle.wire.specs.declared.kinds.Status.TheVariants as status
use Rattle.file_session.specs.declared.stop.Stop.{Stop}
use Rattle.file_session.specs.declared.stop.Stop.TheVariants as stop
use Rattle.transport.specs.declared.transport.TransportError.{TransportError}
use Rattle.transport.specs.declared.transport.TransportError.TheVariants as error

abbrev pub or_cut : Option (Status × Bytes) → Result (Status × Bytes) Stop
or_cut None = Err stop.Cut
or_cut (Some reply) = Ok reply

-- the reply: its status and its payload
abbrev pub reply_in : Result Bytes TransportError → Result (Status × Bytes) Stop
reply_in (Ok body) = or_cut (reply_of body)
reply_in (Err error.Fault) = Err stop.Cut
reply_in (Err error.NoFrame) = Err stop.Cut
reply_in (Err error.Memory) = Err stop.Memory

-- what comes with status Ok
abbrev pub payload_by : Status → Bytes → Result Bytes Stop
payload_by status.Ok payload = Ok payload
payload_by other payload = Err (stop.Declined other)

-- a block, or its absence
abbrev pub block_by : Status → Bytes → Result (Option Bytes) Stop
block_by status.Ok payload = Ok (Some payload)
block_by status.Absent payload = Ok None
block_by other payload = Err (stop.Declined other)

-- that all that was stored is synced; where the server doesn't know the request it keeps nothing, and nothing is to wait
-- for
abbrev pub synced_by : Status → Result (Unit {0}) Stop
synced_by status.Ok = Ok tt
synced_by status.Form = Ok tt
synced_by other = Err (stop.Declined other)

abbrev pub then : {T U : Type 0} → (T → Result U Stop) → Result T Stop → Result U Stop
then next (Ok x) = next x
then next (Err e) = Err e

-- of a request that is answered with a reply text or a digest
abbrev pub payload_in : Result Bytes TransportError → Result Bytes Stop
payload_in answer = then (λ r. payload_by r.0 r.1) (reply_in answer)

-- of one for a block
abbrev pub block_in : Result Bytes TransportError → Result (Option Bytes) Stop
block_in answer = then (λ r. block_by r.0 r.1) (reply_in answer)

-- of one that texts be synced
abbrev pub synced_in : Result Bytes TransportError → Result (Unit {0}) Stop
synced_in answer = then (λ r. synced_by r.0) (reply_in answer)

-- of a commit
abbrev pub status_in : Result Bytes TransportError → Result Status Stop
status_in answer = then (λ r. Ok r.0) (reply_in answer)
