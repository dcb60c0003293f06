-- Honest runs: steps of the clients of all users in any order, the latest first, with one server and one store of
-- blocks. What a client is handed is what the server answered, in that step or an earlier one, to the very text that it
-- has now, or the stored block that it asks for; and what its operations need is stored before it sends or signs
-- anything.
use Rattle.std.specs.Prelude.{◌≡◌, ◌≢◌, ◌≤◌, ◌⊎◌, true, false, List, [], ◌∷◌, Option, Some, None, IfSome, IsSomeAnd, MatchOption, filter_map, if◌then◌else◌, length}
use Rattle.std.specs.Option.{option_and_then, option_map}
use Rattle.layout.specs.Types.{Bytes, Digest, Key, User}
use Rattle.tree_parts.specs.Blocks.{Blocks}
use Rattle.client_tree.specs.Held.{Block, held, keeping_all}
use Rattle.wire.specs.declared.kinds.Status.{Status}
use Rattle.wire.specs.declared.kinds.Status.TheVariants as status
use Rattle.client_verify.specs.State.{asked_of}
use Rattle.client_steps.specs.Steps.{Begins, Call as ClientCall, Client, Closed, Commits, Gives, Hears, IsSound, IsStep, Open, Resigns, StepTaken, Takes}
use Rattle.client_runs.specs.Runs.{Event, IsRun, Keys, client_of, owner, pinned}
use Rattle.client_runs.specs.Released.{stored_texts}
use Rattle.client_runs.specs.Clients.{certificate_of, structure_of}
use Rattle.consistency_server.specs.declared.call.CallKind.{CallKind}
use Rattle.consistency_server.specs.declared.call.CallKind.TheVariants.{Update, Commit}
use Rattle.consistency_server.specs.Answers.{Answer, Call}
use Rattle.consistency_server.specs.History.{answer_of, call_of, is_carried_out, log_of, logged, update_of}

-- a call of the server, and what it answered
pub record Exchange : Type 0 where
  pub call : Call
  pub answer : Answer

-- What happens in a step: which texts are put into the store, which call is made of the server, and what the user's
-- client does.
pub record HonestEvent : Type 0 where
  pub user : User
  pub put : List Bytes
  pub exchange : Option Exchange
  pub step : Option StepTaken

-- ---- what there is after these steps

-- the events of the clients
abbrev pub event_of : HonestEvent → Option Event
event_of h = option_map (λ s. record { user = h.user; call = s.call; after = s.after }) h.step

abbrev pub events : List HonestEvent → List Event
events run = filter_map event_of run

-- the calls that the server carried out, the newest first
abbrev pub carried_out : Exchange → Option Call
carried_out x = if is_carried_out x.answer.status then Some x.call else None

abbrev pub history : List HonestEvent → List Call
history run = filter_map (λ h. option_and_then carried_out h.exchange) run

-- the stored blocks
abbrev pub stored : List HonestEvent → List Block
stored [] = []
stored (h ∷ older) = keeping_all (stored older) h.put

-- ---- what may happen

-- what a client sends: the certificate that it has declared, or the structure that it has signed
abbrev pub sent_by : Client → CallKind → Option Bytes
sent_by client Update = certificate_of client
sent_by client Commit = structure_of client

-- The server answers by its history, unless it answers Busy, since its log, to which this call would go, has had the
-- 1,024 calls for which there is room; or Memory.
pub record IsAnswered (pinned : Key) (history : List Call) (x : Exchange) : Type 0 where
  pub carried_out : is_carried_out x.answer.status ≡ true → x.answer ≡ answer_of pinned history x.call
  pub bare : is_carried_out x.answer.status ≡ false → x.answer.payload ≡ []
  pub full : x.answer.status ≡ status.Busy → 1024 ≤ length (log_of pinned history)
  pub logged_it : x.answer.status ≡ status.Busy
      → logged (record { pinned = pinned; history = history }) x.call ≢ []

-- the block that a reply under check asks for, and the one that a look asks for
abbrev pub wanted_by : Client → Option Digest
wanted_by (Closed p) = None
wanted_by (Open s) = option_map (λ k. (asked_of k).digest) s.checked

abbrev pub looked_for_by : Client → Option Digest
looked_for_by (Closed p) = None
looked_for_by (Open s) = option_map (λ l. l.asked.digest) (option_and_then (λ v. v.looking) s.view)

-- the store has this block of the digest that is asked for, or none
abbrev pub IsFound : Blocks → Option Digest → Option Bytes → Type 0
IsFound blocks asked block = IsSomeAnd asked (λ digest. blocks digest ≡ block)

-- in one of these steps this call was made, and answered so
abbrev pub TookPlace : List HonestEvent → Exchange → Type 0
TookPlace [] x = ⊥
TookPlace (h ∷ older) x = (h.exchange ≡ Some x) ⊎ TookPlace older x

-- In one of these steps the server answered so to the very text that the client has now.
abbrev pub WasTold : List HonestEvent → Client → CallKind → Answer → Type 0
WasTold run client kind answer =
    IsSomeAnd (sent_by client kind) (λ text. TookPlace run (record { call = call_of kind text; answer = answer }))

-- the last of these steps in which this call was made was answered with this status
abbrev pub LastAnswered : List HonestEvent → Call → Status → Type 0
LastAnswered [] call s = ⊥
LastAnswered (h ∷ older) call s =
    MatchOption h.exchange (LastAnswered older call s)
    (λ x. ((x.call ≡ call) × (x.answer.status ≡ s)) ⊎ ((x.call ≢ call) × LastAnswered older call s))

-- the server's last answer to the certificate that the client has now was that it isn't signed under its user's key
abbrev pub WasDeclined : List HonestEvent → Client → Type 0
WasDeclined run client =
    IsSomeAnd (sent_by client Update) (λ text. LastAnswered run (update_of text) status.BadSignature)

-- A client is handed what the server answered, in one of these steps, to the text that it has now: the reply, with
-- status 0, to its certificate, or the status of its structure; and of blocks what is stored. It signs a certificate
-- again only where that was declined.
abbrev pub IsHandedIn : List HonestEvent → Client → Blocks → ClientCall → Type 0
IsHandedIn run client blocks (Hears text answer) =
    WasTold run client Update (record { status = status.Ok; payload = text })
IsHandedIn run client blocks (Takes block answer) = IsFound blocks (wanted_by client) block
IsHandedIn run client blocks (Commits given) =
    (payload : Bytes) × WasTold run client Commit (record { status = given; payload = payload })
IsHandedIn run client blocks (Gives block answer) = IsFound blocks (looked_for_by client) block
IsHandedIn run client blocks (Resigns n answer) = WasDeclined run client
IsHandedIn run client blocks call = Unit {0}

-- the texts that are put into the store with a call: what is laid out for an operation, and what the client hands out
-- to be stored
abbrev pub put_with : ClientCall → List Bytes
put_with (Begins changes laid answer) = laid
put_with (Hears text answer) = stored_texts answer
put_with (Takes block answer) = stored_texts answer
put_with call = []

-- the client whose step comes after these
abbrev pub client_before : HonestEvent → List HonestEvent → Client
client_before h older = client_of h.user (events older)

-- a step after these
pub record IsHonestStep (keys : Keys) (older : List HonestEvent) (h : HonestEvent) : Type 0 where
  -- The client sends its own text, and the server answers it.
  pub sent : IfSome h.exchange (λ x. sent_by (client_before h older) x.call.kind ≡ Some x.call.text)
  pub answered : IfSome h.exchange (IsAnswered (pinned keys) (history older))
  -- What the client does is a step of it.
  pub taken : IfSome h.step (λ s. IsStep (owner keys h.user) (client_before h older) s.call s.after × IsSound s.after)
  pub handed_in : IfSome h.step
      (λ s. IsHandedIn (h ∷ older) (client_before h older) (held (stored older)) s.call)
  pub put : IfSome h.step (λ s. h.put ≡ put_with s.call)

-- each is a step after those before it
abbrev pub IsHonestRun : Keys → List HonestEvent → Type 0
IsHonestRun keys [] = Unit {0}
IsHonestRun keys (h ∷ older) = IsHonestStep keys older h × IsHonestRun keys older

-- what its clients do is a run, so all that is proved of runs with any server holds of it
abbrev pub AreRuns : Type 0
AreRuns = (keys : Keys) (run : List HonestEvent) → IsHonestRun keys run → IsRun keys (events run)
