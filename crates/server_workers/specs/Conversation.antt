-- Connections: the frames of requests are read, and the frames of their replies are written.
use Rattle.std.specs.Prelude.{◌≡◌, ◌≢◌, ◌⊎◌, ◌≤◌, ◌<◌, ◌+◌, ℕ, Bool, true, false, List, [], ◌∷◌, ◌++◌, length, map}
use Rattle.std.specs.Prelude.{Option, Some, None, is_some, MatchOption}
use Rattle.std.specs.List.{All}
use mathlib.Core.List.{IsPrefix}
use Rattle.block_store.specs.declared.store.TheConstants.{BLOCK_LIMIT}
use Rattle.layout.specs.Hash.{hash}
use Rattle.layout.specs.Types.{Bytes, Key}
use Rattle.connection.specs.Told.{Told, goes_on}
use Rattle.wire.specs.declared.kinds.Status.{Status}
use Rattle.wire.specs.declared.kinds.Status.TheVariants as status
use Rattle.wire.specs.declared.kinds.RequestKind.{RequestKind}
use Rattle.wire.specs.declared.kinds.RequestKind.TheVariants.{Update, Commit, Put, Get, Sync}
use Rattle.wire.specs.Frame.{frame, request_of, reply_body}
use Rattle.wire.specs.Stream.{frames_of, BeginsFrame, BeginsAtFault}
use Rattle.consistency_server.specs.Answers.{Call, Answer}
use Rattle.consistency_server.specs.History.{update_of, commit_of, answer_of, log_of}
use Rattle.server_workers.specs.Counting.{count_of}
use Rattle.server_workers.specs.declared.ended.Ended.{Ended}
use Rattle.server_workers.specs.declared.ended.Ended.TheVariants.{End, Fault, Length, Memory, Stopped}

-- ---- servers

-- A server as its clients know it: user 0's key, and whether it keeps what it has on storage; then also calls that are in
-- its log, synced. Such a one knows SYNC, and stops where its storage fails.
pub record Server : Type 0 where
  pub pinned : Key
  pub synced : Option (List Call)

-- one that has all in memory
abbrev pub in_memory : Key → Server
in_memory pinned = record { pinned = pinned; synced = None }

-- one that keeps all on storage, and has these calls in its log, synced
abbrev pub on_storage : Key → List Call → Server
on_storage pinned calls = record { pinned = pinned; synced = Some calls }

-- it keeps what it has on storage
abbrev pub keeps : Server → Bool
keeps server = is_some server.synced

-- calls that were synced are the first of those that are synced later
abbrev pub MoreSynced : Option (List Call) → Option (List Call) → Type 0
MoreSynced None None = Unit {0}
MoreSynced (Some calls) (Some later) = IsPrefix calls later
MoreSynced None (Some later) = ⊥
MoreSynced (Some calls) None = ⊥

-- the same server, later
pub record IsLater (before now : Server) : Type 0 where
  pub pinned : now.pinned ≡ before.pinned
  pub synced : MoreSynced before.synced now.synced

-- ---- replies

-- a status with nothing after it
abbrev pub bare : Status → Answer
bare s = record { status = s; payload = [] }

abbrev pub ok : Bytes → Answer
ok payload = record { status = status.Ok; payload = payload }

-- to a call of the one order: what it is answered after some history, or that it isn't carried out
abbrev pub RepliesToCall : Key → Call → Answer → Type 0
RepliesToCall pinned call reply =
    (reply ≡ bare status.Busy)
    ⊎ (reply ≡ bare status.Memory)
    ⊎ ((history : List Call) × (reply ≡ answer_of pinned history call))

-- The answer to a call tells of these calls alone: it is one after a history, the newest call first, of which each call
-- that placed or committed is among them, in order, and so is the call itself.
pub record TellsSynced (pinned : Key) (synced : List Call) (call : Call) (reply : Answer) : Type 0 where
  pub history : List Call
  pub answers : reply ≡ answer_of pinned history call
  pub kept : IsPrefix (log_of pinned (call ∷ history)) synced

-- to a call, of a server with these calls in its log, synced: an answer that tells of them alone, or that memory ran out
abbrev pub RepliesToKeptCall : Key → List Call → Call → Answer → Type 0
RepliesToKeptCall pinned synced call reply = (reply ≡ bare status.Memory) ⊎ TellsSynced pinned synced call reply

-- to a call, of either server
abbrev pub RepliesToCallOf : Server → Call → Answer → Type 0
RepliesToCallOf server call reply =
    MatchOption server.synced (RepliesToCall server.pinned call reply)
    (λ synced. RepliesToKeptCall server.pinned synced call reply)

-- to a block to be stored: its digest, where it isn't too large
abbrev pub RepliesToPut : Bytes → Answer → Type 0
RepliesToPut block reply =
    ((length block ≤ BLOCK_LIMIT) × (reply ≡ ok (hash block)))
    ⊎ ((BLOCK_LIMIT < length block) × (reply ≡ bare status.TooLarge))
    ⊎ (reply ≡ bare status.Memory)

-- to a digest: a block of this digest, or that there is none
abbrev pub RepliesToDigest : Bytes → Answer → Type 0
RepliesToDigest digest reply =
    ((reply ≡ ok reply.payload) × (hash reply.payload ≡ digest))
    ⊎ (reply ≡ bare status.Absent)

-- to the payload of a GET: a digest has 32 bytes
abbrev pub RepliesToGet : Bytes → Answer → Type 0
RepliesToGet payload reply =
    ((length payload ≡ 32) × RepliesToDigest payload reply)
    ⊎ ((length payload ≢ 32) × (reply ≡ bare status.Form))

-- of either server: one that keeps its blocks on storage may lack memory for a block
abbrev pub RepliesToGetOf : Bool → Bytes → Answer → Type 0
RepliesToGetOf true payload reply = RepliesToGet payload reply ⊎ ((length payload ≡ 32) × (reply ≡ bare status.Memory))
RepliesToGetOf false payload reply = RepliesToGet payload reply

-- to SYNC, with which nothing goes: that it is done, of a server that keeps its blocks; another doesn't know it
abbrev pub RepliesToSync : Bool → Bytes → Answer → Type 0
RepliesToSync true payload reply =
    ((length payload ≡ 0) × (reply ≡ ok []))
    ⊎ ((length payload ≢ 0) × (reply ≡ bare status.Form))
RepliesToSync false payload reply = reply ≡ bare status.Form

abbrev pub RepliesTo : Server → RequestKind → Bytes → Answer → Type 0
RepliesTo server Update text reply = RepliesToCallOf server (update_of text) reply
RepliesTo server Commit text reply = RepliesToCallOf server (commit_of text) reply
RepliesTo server Put block reply = RepliesToPut block reply
RepliesTo server Get digest reply = RepliesToGetOf (keeps server) digest reply
RepliesTo server Sync payload reply = RepliesToSync (keeps server) payload reply

-- to what may be a request
abbrev pub RepliesToBody : Server → Option (RequestKind × Bytes) → Answer → Type 0
RepliesToBody server (Some (kind, payload)) reply = RepliesTo server kind payload reply
RepliesToBody server None reply = reply ≡ bare status.Form

-- the reply counts as an answered call
abbrev pub count_in : Option (RequestKind × Bytes) → Status → ℕ
count_in (Some (Update, text)) s = count_of s
count_in (Some (Commit, text)) s = count_of s
count_in (Some (Put, block)) s = 0
count_in (Some (Get, digest)) s = 0
count_in (Some (Sync, payload)) s = 0
count_in None s = 0

-- ---- conversations

-- the body of a request's frame, and its reply
pub record Exchange : Type 0 where
  pub request : Bytes
  pub reply : Answer

-- the reply is one that the server may give
pub record IsExchange (server : Server) (e : Exchange) : Type 0 where
  pub fits : frame.Fits e.request
  pub replies : RepliesToBody server (request_of e.request) e.reply

-- the frames of the requests, in order
abbrev pub requests : List Exchange → Bytes
requests es = frames_of (map (λ e. e.request) es)

-- the frames of the replies, in order
abbrev pub replies : List Exchange → Bytes
replies es = frames_of (map (λ e. reply_body e.reply.status e.reply.payload) es)

-- how many of the replies count as answered calls
unfoldable pub counted : List Exchange → ℕ
counted [] = 0
counted (e ∷ es) = count_in (request_of e.request) e.reply.status + counted es

-- All frames that were read were replied to, where it ended by itself: at the end of the stream, or at a length at
-- fault; and where the server stopped all before one that was read whole.
abbrev pub EndsWith : Ended → Bytes → Bytes → Type 0
EndsWith End left unwritten = (unwritten ≡ []) × (¬ BeginsFrame left) × (¬ BeginsAtFault left)
EndsWith Length left unwritten = (unwritten ≡ []) × BeginsAtFault left
EndsWith Fault left unwritten = Unit {0}
EndsWith Memory left unwritten = Unit {0}
EndsWith Stopped left unwritten = (unwritten ≡ []) × BeginsFrame left

-- So many bytes more were read and written, and so many calls more answered, as the exchanges say: what was read is the
-- frames of their requests and a rest, and what was written is the frames of their replies, in order, but for an end.
-- Of a connection that doesn't tell its bytes this says only that no call less was answered.
pub record Conversed (server : Server) (before now : Option Told) (answered answered_now : ℕ)
    (ended : Ended) : Type 0 where
  pub exchanges : List Exchange
  pub left : Bytes
  pub written : Bytes
  pub unwritten : Bytes
  pub allowed : All (IsExchange server) exchanges
  pub told : now ≡ goes_on (requests exchanges ++ left) written before
  pub in_order : replies exchanges ≡ written ++ unwritten
  pub whole : EndsWith ended left unwritten
  pub counts : answered_now ≡ answered + counted exchanges
