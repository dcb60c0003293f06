-- Who stopped a session.
use Rattle.std.specs.Prelude.{◌≡◌, List, [], ◌∷◌, ◌++◌, Option, Some, None, Result, Ok, Err}
use Rattle.layout.specs.Types.{Bytes}
use Rattle.wire.specs.Frame.{reply_of}
use Rattle.wire.specs.declared.kinds.Status.{Status}
use Rattle.client_releases.specs.declared.error.ClientError.{ClientError}
use Rattle.client_releases.specs.declared.error.ClientError.TheVariants as error
use Rattle.client_verify.specs.declared.look.Look.TheVariants as look
use Rattle.client_verify.specs.declared.step.Step.TheVariants as step
use Rattle.client_steps.specs.Steps.{Asks, Sees}
use Rattle.file_session.specs.declared.stop.Stop.{Stop}
use Rattle.file_session.specs.declared.stop.Stop.TheVariants as stop
use Rattle.transport.specs.declared.transport.TransportError.{TransportError}
use Rattle.transport.specs.declared.transport.TransportError.TheVariants as fault
use Rattle.file_session.specs.Calls.{Begins, Resigns, Hears, Takes, Signs, Commits, Looks, Gives}
use Rattle.file_session.specs.Order.{Move, Calls, Sends, LacksLeaves, LacksPlan, LacksNumbers}

abbrev pub GaveText : Result Bytes ClientError → Stop → Type 0
GaveText (Ok text) e = ⊥
GaveText (Err x) e = e ≡ stop.Client x

abbrev pub GaveStep : Result Asks ClientError → Stop → Type 0
GaveStep (Ok (step.Need digest)) e = ⊥
GaveStep (Ok (step.Store texts)) e = ⊥
GaveStep (Ok (step.Broken rule)) e = e ≡ stop.Broken rule
GaveStep (Err x) e = e ≡ stop.Client x

abbrev pub GaveLook : Result Sees ClientError → Stop → Type 0
GaveLook (Ok (look.Broken rule)) e = e ≡ stop.Broken rule
GaveLook (Ok other) e = ⊥
GaveLook (Err x) e = e ≡ stop.Client x

-- a status other than Ok, or no reply
abbrev pub GaveReply : Option (Status × Bytes) → Stop → Type 0
GaveReply None e = e ≡ stop.Cut
GaveReply (Some reply) e = e ≡ stop.Declined reply.0

abbrev pub GaveAnswer : Result Bytes TransportError → Stop → Type 0
GaveAnswer (Ok body) e = GaveReply (reply_of body) e
GaveAnswer (Err fault.Fault) e = e ≡ stop.Cut
GaveAnswer (Err fault.NoFrame) e = e ≡ stop.Cut
GaveAnswer (Err fault.Memory) e = e ≡ stop.Memory

-- this move gave this: the client by its error, its want of leaves or a broken rule, the server by its status or by
-- what is no reply, the transport by its fault, or the session itself was refused memory
abbrev pub Gave : Move → Stop → Type 0
Gave (Calls (Begins changes laid x)) e = GaveText x e
Gave (Calls (Resigns n x)) e = GaveText x e
Gave (Calls (Hears reply x)) e = GaveStep x e
Gave (Calls (Takes block x)) e = GaveStep x e
Gave (Calls (Signs x lost)) e = GaveText x e
Gave (Calls (Commits told)) e = e ≡ stop.Declined told
Gave (Calls (Looks q x)) e = GaveLook x e
Gave (Calls (Gives q block x)) e = GaveLook x e
Gave (Sends r x) e = GaveAnswer x e
Gave LacksLeaves e = e ≡ stop.Client error.NoLeaf
Gave LacksPlan e = e ≡ stop.Memory
Gave LacksNumbers e = e ≡ stop.Memory

-- it is what the last of these moves gave
pub record IsLast (ms : List Move) (e : Stop) : Type 0 where
  pub before : List Move
  pub last : Move
  pub moves : ms ≡ before ++ last ∷ []
  pub gave : Gave last e

abbrev pub IsGiven : {X : Type 0} → List Move → Result X Stop → Type 0
IsGiven ms (Ok x) = Unit {0}
IsGiven ms (Err e) = IsLast ms e
