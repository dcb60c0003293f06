-- Clients, server and store in memory: for private contracts. Nobody has to believe this file.
use Rattle.std.specs.Prelude.{◌≡◌, ◌≢◌, ℕ, Bool, true, false, List, [], ◌∷◌, ◌++◌, Option, Some, None, IfSome, Ok, length, option_and_then, option_to_list, reverse, slice_index_or, if◌then◌else◌, not}
use Rattle.std.specs.Option.{option_map_or}
use Rattle.std.specs.Str.{bytes_eq}
use Rattle.std.specs.declared.vec.Vec.{Vec}
use Rattle.layout.specs.Types.{Bytes, User}
use Rattle.client_tree.specs.Held.{keeping_all}
use Rattle.wire.specs.declared.kinds.Status.{Status}
use Rattle.wire.specs.declared.kinds.Status.TheVariants as status
use Rattle.client_verify.specs.declared.look.Look.TheVariants as look
use Rattle.client_verify.specs.declared.step.Step.TheVariants as step
use Rattle.client_steps.specs.Steps.{Client, StepTaken}
use Rattle.client_runs.specs.declared.world.Act.{Act}
use Rattle.client_runs.specs.declared.world.Act.TheVariants as act
use Rattle.client_runs.specs.declared.world.Answer.{Answer}
use Rattle.client_runs.specs.declared.world.Answer.TheVariants.{Asks, Sees, Served}
use Rattle.client_runs.specs.Runs.{client_of, owner, pinned}
use Rattle.client_runs.specs.Told.{texts_in}
use Rattle.client_runs.specs.Carried.{ComesOf, script_keys}
use Rattle.client_runs.specs.Clients.{certificate_of, client_at}
use Rattle.consistency_server.specs.declared.call.CallKind.{CallKind}
use Rattle.consistency_server.specs.declared.call.CallKind.TheVariants.{Update, Commit}
use Rattle.consistency_server.specs.Answers.{Answer as ServerAnswer, Call}
use Rattle.consistency_server.specs.History.{call_of}
use Rattle.honest_runs.specs.declared.step.Delivery.{Delivery}
use Rattle.honest_runs.specs.declared.step.Delivery.TheVariants as delivery
use Rattle.honest_runs.specs.declared.step.HonestAct.{HonestAct}
use Rattle.honest_runs.specs.declared.step.HonestAct.TheVariants as honest
use Rattle.honest_runs.specs.declared.step.HonestStep.{HonestStep}
use Rattle.honest_runs.specs.declared.town.Town.{Town}
use Rattle.honest_runs.specs.declared.wanted.Wanted.{Wanted}
use Rattle.honest_runs.specs.HonestRuns.{Exchange, HonestEvent, IsAnswered, IsHonestRun, IsHonestStep, carried_out, events, history, looked_for_by, sent_by, stored, wanted_by}
use Rattle.honest_runs.specs.Served.{IsEventOf, Keep, exchanges}

-- ---- what clients ask for

abbrev pub nothing : Wanted
nothing = record { reply = None; look = None }

abbrev pub wanted_at : List Wanted → User → Wanted
wanted_at wanted u = slice_index_or wanted u nothing

-- what a client asks for after it answered so
abbrev pub noting : {A : Type 0} → Wanted → Answer A → Wanted
noting w (Asks (Ok (step.Need digest))) = record { reply = Some digest; look = w.look }
noting w (Sees (Ok (look.Need digest))) = record { reply = w.reply; look = Some digest }
noting w other = w

-- what the client asks for is noted
abbrev pub IsNoted : Client → Wanted → Type 0
IsNoted client w = IfSome (wanted_by client) (λ d. w.reply ≡ Some d)
    × IfSome (looked_for_by client) (λ d. w.look ≡ Some d)

pub record AreNoted (clients : List Client) (wanted : List Wanted) : Type 0 where
  pub size : length wanted ≡ 64
  pub each : (u : User) → IsNoted (client_at clients u) (wanted_at wanted u)

-- ---- what is stored

-- what a client hands out to be stored
abbrev pub handed_out : {A : Type 0} → Answer A → List Bytes
handed_out (Asks (Ok (step.Store texts))) = texts_in texts
handed_out other = []

-- it hands something in
abbrev pub hands_in : {A : Type 0} → Act A → Bool
hands_in (act.Reply text) = true
hands_in (act.Block block) = true
hands_in (act.Committed status) = true
hands_in (act.Give block) = true
hands_in other = false

-- ---- what was declined

abbrev pub by_update : CallKind → Bool → Bool
by_update Update same = same
by_update Commit same = false

-- this call is an UPDATE with this text
abbrev pub is_update_of : Bytes → Call → Bool
is_update_of text call = by_update call.kind (bytes_eq call.text text)

abbrev pub speaks_of_signature : Status → Bool
speaks_of_signature status.BadSignature = true
speaks_of_signature other = false

-- an UPDATE with this text was declined for its signature when it was made last, after one exchange more
abbrev pub declined_with : Bytes → Bool → Option Exchange → Bool
declined_with text declined None = declined
declined_with text declined (Some x) =
    if is_update_of text x.call then speaks_of_signature x.answer.status else declined

-- so it was among these, the latest of which is the first
abbrev pub is_declined : Bytes → List (Option Exchange) → Bool
is_declined text [] = false
is_declined text (x ∷ older) = declined_with text (is_declined text older) x

-- and so the certificate was that a client has, among these, the earliest of which is the first
abbrev pub has_declined : List (Option Exchange) → Client → Bool
has_declined xs client = option_map_or (λ text. is_declined text (reverse xs)) (certificate_of client) false

-- a client may be told to do this alone, after these
abbrev pub may_alone : {A : Type 0} → List (Option Exchange) → Client → Act A → Bool
may_alone xs client (act.Resign n) = has_declined xs client
may_alone xs client other = not (hands_in other)

-- ---- calls of the server

abbrev pub exchange_of : CallKind → Bytes → ServerAnswer → Exchange
exchange_of kind text a = record { call = call_of kind text; answer = a }

-- a client makes such a call, and this becomes of the answer
abbrev pub calling : {A : Type 0} → CallKind → Delivery → HonestAct A
calling Update how = honest.Update how
calling Commit how = honest.Commit how

-- the client would send this very text
abbrev pub has_text : Option Bytes → Bytes → Bool
has_text own text = option_map_or (λ t. bytes_eq t text) own false

-- a client's text was sent, and the server answered it
pub record IsSent (kind : CallKind) (client : Client) (old : List Call) (x : Exchange) (new : List Call) : Type 0 where
  pub made : x.call.kind ≡ kind
  pub sent : sent_by client x.call.kind ≡ Some x.call.text
  pub answered : IsAnswered (pinned script_keys) old x
  pub history : new ≡ option_to_list (carried_out x) ++ old

-- ---- what comes of a step

-- what of the town is as before, and what was stored and noted, after a user's client answered so
pub record IsTold {A : Type 0} (u : User) (answer : Answer A) (old new : Town A) : Type 0 where
  pub others : (v : ℕ) → v ≢ u → client_at new.clients v ≡ client_at old.clients v
  pub stored : new.store ≡ keeping_all old.store (handed_out answer)
  pub noted : AreNoted new.clients new.wanted.items
  pub server : new.server ≡ old.server
  pub exchanges : new.exchanges ≡ old.exchanges

-- what comes of a user's client that is told to do this
abbrev pub ComesTo : {A : Type 0} → User → Act A → Answer A → Town A → Town A → Type 0
ComesTo u todo answer old new =
    ComesOf (owner script_keys u) (client_at old.clients u) todo answer (client_at new.clients u)

-- what comes of an answer with this status: its payload is handed in as a reply, if it is one
abbrev pub ComesOfReply : {A : Type 0} → User → Status → Bytes → Answer A → Town A → Town A → Type 0
ComesOfReply {A} u status.Ok payload answer old new =
    (text : Vec ℕ A) × (text.items ≡ payload) × ComesTo u (act.Reply text) answer old new
ComesOfReply u other payload answer old new = (answer ≡ Served other)
    × (client_at new.clients u ≡ client_at old.clients u)

-- the status of a structure is handed in, and told
pub record Acknowledges {A : Type 0} (u : User) (status : Status) (answer : Answer A) (old new : Town A) : Type 0 where
  pub is : answer ≡ Served status
  pub told : Answer A
  pub comes : ComesTo u (act.Committed status) told old new
  pub is_told : IsTold u told old new

-- what comes of an answer that arrives
abbrev pub Arrives : {A : Type 0} → User → CallKind → ServerAnswer → Answer A → Town A → Town A → Type 0
Arrives u Update a answer old new = ComesOfReply u a.status a.payload answer old new × IsTold u answer old new
Arrives u Commit a answer old new = Acknowledges u a.status answer old new

-- or is lost
abbrev pub IsDeliveredTo : {A : Type 0} → User → Delivery → Exchange → Answer A → Town A → Town A → Type 0
IsDeliveredTo u delivery.Lost x answer old new = (answer ≡ Served x.answer.status) × (new ≡ old)
IsDeliveredTo u delivery.Arrives x answer old new = Arrives u x.call.kind x.answer answer old new

-- the client after a step of it, if it took one
abbrev pub client_after : Client → Option StepTaken → Client
client_after before None = before
client_after before (Some s) = s.after

-- these steps lead to this town
pub record LeadsTo {A : Type 0} (run : List HonestEvent) (town : Town A) : Type 0 where
  pub clients : (u : User) → client_of u (events run) ≡ client_at town.clients u
  pub calls : history run ≡ town.server
  pub blocks : stored run ≡ town.store
  pub answers : exchanges run ≡ town.exchanges.items

-- The steps so far with their answers are an honest run, after which clients, server and store are those in memory.
pub record StandsSoFar {A : Type 0} (steps : List (HonestStep A)) (answers : List (Answer A)) (town : Town A)
    : Type 0 where
  pub run : List HonestEvent
  pub is_run : IsHonestRun script_keys run
  pub kept : Keep (reverse steps) (reverse answers) run
  pub leads : LeadsTo run town

-- what happens in a step, in which this call is made, and what is there after it
pub record Happens {A : Type 0} (todo : HonestStep A) (answer : Answer A) (x : Option Exchange) (old new : Town A)
    : Type 0 where
  pub event : HonestEvent
  pub call : event.exchange ≡ x
  pub is_step : (older : List HonestEvent) → LeadsTo older old → IsHonestStep script_keys older event
  pub is_event : (older : List HonestEvent) → LeadsTo older old → IsEventOf older todo answer event
  pub client : client_at new.clients todo.user ≡ client_after (client_at old.clients todo.user) event.step
  pub others : (v : ℕ) → v ≢ todo.user → client_at new.clients v ≡ client_at old.clients v
  pub calls : new.server ≡ option_to_list (option_and_then carried_out event.exchange) ++ old.server
  pub stored : new.store ≡ keeping_all old.store event.put
  pub noted : AreNoted new.clients new.wanted.items
  pub exchanges : new.exchanges ≡ old.exchanges

-- it happened, and its call with the answer is kept
pub record IsCarriedOut {A : Type 0} (todo : HonestStep A) (answer : Answer A) (old new : Town A) : Type 0 where
  pub call : Option Exchange
  pub happens : Happens todo answer call old (record new { exchanges = old.exchanges })
  pub kept : new.exchanges.items ≡ old.exchanges.items ++ call ∷ []
