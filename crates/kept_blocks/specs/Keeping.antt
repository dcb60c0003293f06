-- Exchanges where blocks are kept.
use Rattle.std.specs.Prelude.{◌≡◌, ◌⊎◌, ◌==◌, List, length, Option, Some, None, Result, Ok, Err, if◌then◌else◌}
use Rattle.layout.specs.Types.{Bytes, Digest}
use Rattle.wire.specs.declared.kinds.RequestKind.{RequestKind}
use Rattle.wire.specs.declared.kinds.RequestKind.TheVariants.{Put, Get}
use Rattle.wire.specs.declared.kinds.Status.{Status}
use Rattle.wire.specs.declared.kinds.Status.TheVariants.{Ok as Fine}
use Rattle.wire.specs.Frame.{reply_body, reply_of}
use Rattle.transport.specs.Asked.{Asked}
use Rattle.transport.specs.declared.transport.TransportError.{TransportError}
use Rattle.transport.specs.declared.transport.TransportError.TheVariants.{Memory}
use Rattle.kept_blocks.specs.KeptBlocks.{KeptBlock, kept_with, text_of}

-- the text that a request asks for, if it is kept
abbrev pub text_for : RequestKind → Bytes → List KeptBlock → Option Bytes
text_for Get digest kept = text_of digest kept
text_for other payload kept = None

-- a text under a digest, if that is one
abbrev pub block_under : Digest → Bytes → Option KeptBlock
block_under digest text = if length digest == 32 then Some (record { digest = digest; text = text }) else None

-- the block of which a reply tells: the text that was got, or the one that was stored
abbrev pub block_told : RequestKind → Bytes → Option (Status × Bytes) → Option KeptBlock
block_told Get digest (Some (Fine, text)) = block_under digest text
block_told Put text (Some (Fine, digest)) = block_under digest text
block_told other payload reply = None

abbrev pub block_of : Asked → Result Bytes TransportError → Option KeptBlock
block_of asked (Ok body) = block_told asked.kind asked.payload (reply_of body)
block_of asked (Err e) = None

-- the block is kept as the newest, or nothing changes
abbrev pub MayKeep : Option KeptBlock → List KeptBlock → List KeptBlock → Type 0
MayKeep (Some block) before now = (now ≡ before) ⊎ (now ≡ kept_with block before)
MayKeep None before now = now ≡ before

-- a text that is kept is handed out as the server's reply, unless memory runs out, and nothing is asked
pub record IsFound {T : Type 0} (asked : Asked) (result : Result Bytes TransportError) (t u : T)
    (before now : List KeptBlock) : Type 0 where
  pub text : Bytes
  pub kept : text_for asked.kind asked.payload before ≡ Some text
  pub handed : (result ≡ Ok (reply_body Fine text)) ⊎ (result ≡ Err Memory)
  pub unasked : u ≡ t
  pub same : now ≡ before

-- what isn't kept is asked of the server, and the block of which it tells may be kept
pub record IsPassed {T : Type 0} (answers : T → Asked → Result Bytes TransportError → T → Type 0) (asked : Asked)
    (result : Result Bytes TransportError) (t u : T) (before now : List KeptBlock) : Type 0 where
  pub unkept : text_for asked.kind asked.payload before ≡ None
  pub answered : answers t asked result u
  pub keeps : MayKeep (block_of asked result) before now

-- what an exchange did
abbrev pub IsAnswered : {T : Type 0} → (T → Asked → Result Bytes TransportError → T → Type 0) → Asked
    → Result Bytes TransportError → T → T → List KeptBlock → List KeptBlock → Type 0
IsAnswered answers asked result t u before now =
    IsFound asked result t u before now ⊎ IsPassed answers asked result t u before now
