-- Nobody has to believe this file: an aid of private contracts.
-- A conversation that goes on.
use Rattle.std.specs.Prelude.{◌≡◌, ◌⊎◌, ◌≤◌, ◌+◌, ℕ, List, [], ◌++◌, true, Option, Result, Ok, Err, OnOk, IfErr}
use Rattle.leaf_ledger.specs.Device.{HasRisen}
use Rattle.std.specs.List.{All}
use Rattle.layout.specs.Types.{Bytes}
use Rattle.connection.specs.Told.{Told, goes_on}
use Rattle.wire.specs.Frame.{frame, reply_body, request_of}
use Rattle.consistency_server.specs.Answers.{Answer}
use Rattle.server_workers.specs.Conversation.{Server, keeps, Exchange, IsExchange, RepliesToBody, requests, replies, counted, count_in, Conversed}
use Rattle.server_workers.specs.declared.ended.Ended.{Ended}
use Rattle.server_workers.specs.declared.ended.Ended.TheVariants.{Fault, Memory, Stopped}

-- the frame of a reply
abbrev pub frame_of : Answer → Bytes
frame_of reply = frame.spell (reply_body reply.status reply.payload)

-- the connection was told it whole
abbrev pub ToldWhole : Answer → Option Told → Option Told → Type 0
ToldWhole reply before now = now ≡ goes_on [] (frame_of reply) before

-- it was told a beginning of it
abbrev pub ToldPart : Answer → Option Told → Option Told → Type 0
ToldPart reply before now =
    (part rest : List ℕ) × (now ≡ goes_on [] part before) × (frame_of reply ≡ part ++ rest)

-- how it stands: what the connection tells, how many calls were answered, and which bytes wait
pub record Standing : Type 0 where
  pub told : Option Told
  pub answered : ℕ
  pub waiting : Bytes

-- each frame that isn't among the bytes that wait was replied to
pub record Conversing (server : Server) (start now : Standing) : Type 0 where
  pub exchanges : List Exchange
  pub allowed : All (IsExchange server) exchanges
  pub told : now.told ≡ goes_on (requests exchanges ++ now.waiting) (replies exchanges) start.told
  pub counts : now.answered ≡ start.answered + counted exchanges

-- it goes on, or has ended
abbrev pub Steps : Server → Standing → {X : Type 0} → Result X Ended → Standing → Type 0
Steps server start (Ok x) now = Conversing server start now
Steps server start (Err ended) now = Conversed server start.told now.told start.answered now.answered ended

-- from wherever the conversation began, with a server that is known later as this one
abbrev pub GoesOn : (earlier server : Server) → Standing → {X : Type 0} → Result X Ended → Standing → Type 0
GoesOn earlier server before result now =
    (start : Standing) → Conversing earlier start before → Steps server start result now

-- ---- a request

-- Its reply was written, or a beginning of it.
pub record WasReplied {X : Type 0} (server : Server) (request : Bytes) (told told_now : Option Told)
    (answered answered_now : ℕ) (result : Result X Ended) : Type 0 where
  pub reply : Answer
  pub allowed : RepliesToBody server (request_of request) reply
  pub counts : answered_now ≡ answered + count_in (request_of request) reply.status
  pub whole : OnOk result (ToldWhole reply told told_now)
  pub part : IfErr result (λ _. ToldPart reply told told_now)
  pub broken : IfErr result (λ e. (e ≡ Fault) ⊎ (e ≡ Memory))

-- The server had stopped: nothing was written.
pub record HadStopped {X : Type 0} (server : Server) (told told_now : Option Told) (answered answered_now : ℕ)
    (result : Result X Ended) : Type 0 where
  pub stopped : result ≡ Err Stopped
  pub keeps : keeps server ≡ true
  pub told_same : told_now ≡ told
  pub counts : answered_now ≡ answered

-- ---- faults

-- Faults are counted, and a fault of the connection is told only where the count rose or stands at its last value.
pub record IsCaused {X : Type 0} (before now : ℕ) (result : Result X Ended) : Type 0 where
  pub later : before ≤ now
  pub rose : result ≡ Err Fault → HasRisen before now
