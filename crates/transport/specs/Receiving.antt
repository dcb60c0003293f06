-- Nobody has to believe this file: an aid of private contracts.
-- A frame that is read from a connection.
use Rattle.std.specs.Prelude.{◌≡◌, ◌≤◌, ◌<◌, ◌⊎◌, ℕ, Bool, true, [], ◌++◌, length, Option, Result, Err}
use Rattle.layout.specs.Types.{Bytes}
use Rattle.layout.specs.Format.{IsBytes}
use Rattle.leaf_ledger.specs.Device.{HasRisen}
use Rattle.connection.specs.Told.{Told, goes_on}
use Rattle.wire.specs.Stream.{BeginsFrame, BeginsAtFault}
use Rattle.transport.specs.Framing.{Brings}
use Rattle.transport.specs.declared.transport.TransportError.{TransportError}
use Rattle.transport.specs.declared.transport.TransportError.TheVariants.{Fault}

-- a piece more waits, of one byte or more
pub record ReadOn (before now : Option Told) (waiting waiting_now : Bytes) : Type 0 where
  pub piece : Bytes
  pub some : 0 < length piece
  pub bytes : IsBytes piece
  pub told : now ≡ goes_on piece [] before
  pub waits : waiting_now ≡ waiting ++ piece

-- what was read after what waited, and what it brings
pub record Received (result : Result Bytes TransportError) (before now : Option Told) (waiting waiting_now : Bytes)
    (at_end : Bool) : Type 0 where
  pub read : Bytes
  pub told : now ≡ goes_on read [] before
  pub brings : Brings result (waiting ++ read) waiting_now at_end

-- Faults are counted, and a fault of the connection is told only where the count rose or stands at its last value.
pub record IsCaused {X : Type 0} (before now : ℕ) (result : Result X TransportError) : Type 0 where
  pub later : before ≤ now
  pub rose : result ≡ Err Fault → HasRisen before now

-- bytes came with which no frame begins, and none will
abbrev pub NoFrameComes : Bool → Type 0
NoFrameComes at_end = (came : Bytes) × (¬ BeginsFrame came) × ((at_end ≡ true) ⊎ BeginsAtFault came)

-- a text was written, of which a rest may be missing after a fault, and then so many bytes were read
pub record Answered (result : Result Bytes TransportError) (text : Bytes) (before now : Option Told)
    (waiting waiting_now : Bytes) (at_end : Bool) : Type 0 where
  pub read : Bytes
  pub written : Bytes
  pub unwritten : Bytes
  pub told : now ≡ goes_on read written before
  pub in_order : text ≡ written ++ unwritten
  pub whole : (unwritten ≡ []) ⊎ (result ≡ Err Fault)
  pub brings : Brings result (waiting ++ read) waiting_now at_end
