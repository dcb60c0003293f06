-- Exchanges over a connection: the frame of a request is written, and the frame of its reply is read.
use Rattle.std.specs.Prelude.{◌≡◌, ◌⊎◌, ◌≤◌, ◌<◌, ℕ, Bool, true, false, [], ◌++◌, length, Option, Some, None, Result, Ok, Err}
use Rattle.layout.specs.Types.{Bytes}
use Rattle.leaf_ledger.specs.Device.{HasRisen}
use Rattle.connection.specs.Told.{Told, goes_on}
use Rattle.wire.specs.Frame.{frame, request}
use Rattle.wire.specs.Stream.{IsFrameThen, BeginsFrame, BeginsAtFault}
use Rattle.wire.specs.declared.frames.TheConstants.{BODY_LIMIT}
use Rattle.transport.specs.Asked.{Asked}
use Rattle.transport.specs.declared.transport.TransportError.{TransportError}
use Rattle.transport.specs.declared.transport.TransportError.TheVariants.{Fault, NoFrame, Memory}

-- how a connection stands over which requests go
pub record Standing : Type 0 where
  -- what was read from it and what was written to it, or None where it doesn't tell
  pub told : Option Told
  -- it was read to its end
  pub at_end : Bool
  -- how often it has failed
  pub faults : ℕ
  -- what was read, but for the replies that were handed out; nothing where the connection doesn't tell
  pub waiting : Bytes
  -- a request was sent whose reply wasn't handed out
  pub broken : Bool

-- of the bytes that wait, those that a connection which tells this shows
abbrev pub shown : Option Told → Bytes → Bytes
shown None waiting = []
shown (Some told) waiting = waiting

-- nothing was sent: the request fits into no frame, or the reply of an earlier one is missing, or else memory ran out
abbrev pub IsUnsent : Asked → Result Bytes TransportError → Standing → Type 0
IsUnsent asked result before =
    ((BODY_LIMIT ≤ length asked.payload) × (result ≡ Err NoFrame))
    ⊎ ((before.broken ≡ true) × (result ≡ Err NoFrame))
    ⊎ ((length asked.payload < BODY_LIMIT) × (before.broken ≡ false) × (result ≡ Err Memory))

-- What came begins with the frame of the reply, and the rest waits; or no frame begins it and none will, since the
-- connection is at its end or a length is at fault.
abbrev pub Brings : Result Bytes TransportError → Bytes → Bytes → Bool → Type 0
Brings (Ok body) came waiting at_end = IsFrameThen body waiting came
Brings (Err NoFrame) came waiting at_end = (¬ BeginsFrame came) × ((at_end ≡ true) ⊎ BeginsAtFault came)
Brings (Err Fault) came waiting at_end = Unit {0}
Brings (Err Memory) came waiting at_end = Unit {0}

-- the exchange is whole, or nothing is sent any more
abbrev pub Leaves : {X E : Type 0} → Result X E → Bool → Type 0
Leaves (Ok x) broken = broken ≡ false
Leaves (Err e) broken = broken ≡ true

-- The frame of the request was written, of which a rest may be missing after a fault, and then so many bytes were read.
pub record IsSent (asked : Asked) (result : Result Bytes TransportError) (before now : Standing) : Type 0 where
  pub small : length asked.payload < BODY_LIMIT
  pub going : before.broken ≡ false
  pub read : Bytes
  pub written : Bytes
  pub unwritten : Bytes
  pub told : now.told ≡ goes_on read written before.told
  pub in_order : frame.spell (request asked.kind asked.payload) ≡ written ++ unwritten
  pub whole : (unwritten ≡ []) ⊎ (result ≡ Err Fault)
  pub brings : Brings result (before.waiting ++ read) now.waiting now.at_end
  pub leaves : Leaves result now.broken

-- what an exchange did
pub record Exchanged (asked : Asked) (result : Result Bytes TransportError) (before now : Standing) : Type 0 where
  pub sent : (IsUnsent asked result before × (now ≡ before)) ⊎ IsSent asked result before now
  pub later : before.faults ≤ now.faults
  pub rose : result ≡ Err Fault → HasRisen before.faults now.faults
