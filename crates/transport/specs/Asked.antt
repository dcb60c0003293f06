-- What is asked of a server, and what comes back, wherever both lie in memory.
use Rattle.std.specs.Prelude.{ℕ, Result, Ok, Err}
use Rattle.std.specs.declared.vec.Vec.{Vec}
use Rattle.layout.specs.Types.{Bytes}
use Rattle.wire.specs.declared.kinds.RequestKind.{RequestKind}
use Rattle.transport.specs.declared.transport.TransportError.{TransportError}

-- the kind, and what goes with it: a signed certificate or structure, a block, a digest, or nothing
pub record Asked : Type 0 where
  pub kind : RequestKind
  pub payload : Bytes

-- the body of the frame that came, or why none did
abbrev pub came : {A : Type 0} → Result (Vec ℕ A) TransportError → Result Bytes TransportError
came (Ok body) = Ok body.items
came (Err e) = Err e
