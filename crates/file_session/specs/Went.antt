-- Runs: calls of the client and exchanges of the transport, one after another, in the order of an operation.
use Rattle.std.specs.Prelude.{◌≡◌, ℕ, List, [], ◌∷◌, ◌++◌, Result, Ok, Err, Some, None}
use Rattle.layout.specs.Types.{Bytes, Digest}
use Rattle.update_cert.specs.Change.{Change}
use Rattle.update_cert.specs.World.{Tree, File, Directory}
use Rattle.client_tree.specs.Questions.{IsKindOf, IsLeastFree}
use Rattle.client_tree.specs.declared.questions.Question.{Question}
use Rattle.client_tree.specs.declared.questions.Question.TheVariants as question
use Rattle.client_releases.specs.declared.error.ClientError.{ClientError}
use Rattle.client_verify.specs.declared.look.Look.TheVariants as look
use Rattle.client_verify.specs.State.{State}
use Rattle.client_steps.specs.Steps.{Sees}
use Rattle.transport.specs.declared.transport.TransportError.{TransportError}
use Rattle.transport.specs.Asked.{Asked}
use Rattle.file_session.specs.Calls.{Begins, Signs, Looks, Gives, Leads}
use Rattle.file_session.specs.Order.{Next, Follows, Move, Calls, Sends, LacksLeaves, LacksPlan}

-- what a transport may answer: from this one, this request with its answer may lead to that one
abbrev pub Answering : Type 0 → Type 1
Answering T = T → Asked → Result Bytes TransportError → T → Type 0

-- a client, a transport, and what has to come next
pub record At (T : Type 0) : Type 0 where
  pub client : State
  pub transport : T
  pub next : Next

abbrev pub point : {T : Type 0} → State → T → Next → At T
point s t n = record { client = s; transport = t; next = n }

-- A move: a call that the client may answer so, or an exchange that the transport may answer so, while the other stays.
abbrev pub IsMove : {T : Type 0} → Answering T → At T → Move → At T → Type 0
IsMove answers a (Calls call) b =
    Leads a.client call b.client × (b.transport ≡ a.transport) × Follows a.client a.next (Calls call) b.next
IsMove answers a (Sends r x) b =
    answers a.transport r x b.transport × (b.client ≡ a.client) × Follows a.client a.next (Sends r x) b.next
IsMove answers a lacks b =
    (b.client ≡ a.client) × (b.transport ≡ a.transport) × Follows a.client a.next lacks b.next

-- these moves, one after another
abbrev pub Moves : {T : Type 0} → Answering T → At T → List Move → At T → Type 0
Moves answers a [] b = b ≡ a
Moves {T} answers a (m ∷ ms) b = (mid : At T) × IsMove answers a m mid × Moves answers mid ms b

-- ---- what a look tells

-- a question, and its answer
pub record Seen : Type 0 where
  pub question : Question
  pub answer : Sees

-- In this tree it is the answer to the question: what stands at an i-number, of what kind and size it is, or the least
-- i-number of a range at which nothing stands.
abbrev pub IsSeenIn : Tree → Question → Sees → Type 0
IsSeenIn tree (question.At p i) (look.File bytes) = tree p i ≡ Some (File bytes.items)
IsSeenIn tree (question.At p i) (look.Dir entries) = tree p i ≡ Some (Directory entries)
IsSeenIn tree (question.At p i) look.None = tree p i ≡ None
IsSeenIn tree (question.Kind p i) (look.Kind kind) = IsKindOf kind (tree p i)
IsSeenIn tree (question.Free p first last) (look.Free found) = IsLeastFree (tree p) first last found
IsSeenIn tree q other = ⊥

-- in this tree each of these looks told what is so
abbrev pub Agrees : Tree → List Seen → Type 0
Agrees tree [] = Unit {0}
Agrees tree (s ∷ seen) = IsSeenIn tree s.question s.answer × Agrees tree seen

-- ---- what moves tell

-- an operation of these changes was begun, for which these texts were laid out; none was, for want of leaves; a look
-- was answered; a view was signed that loses the changes of these numbers; or memory was refused for the operation that
-- was planned
pub data Event : Type 0 where
  Begun : List (Change Digest) → List Bytes → Event
  Unbegun : Event
  Saw : Seen → Event
  Signed : List ℕ → Event
  Unplanned : Event

abbrev pub looks : List Seen → List Event
looks [] = []
looks (s ∷ seen) = Saw s ∷ looks seen

abbrev pub signs : List (List ℕ) → List Event
signs [] = []
signs (lost ∷ signed) = Signed lost ∷ signs signed

abbrev pub seen_by : Question → Result Sees ClientError → List Seen
seen_by q (Ok (look.Need digest)) = []
seen_by q (Ok (look.Broken rule)) = []
seen_by q (Ok told) = record { question = q; answer = told } ∷ []
seen_by q (Err e) = []

abbrev pub signed_by : Result Bytes ClientError → List ℕ → List (List ℕ)
signed_by (Ok text) lost = lost ∷ []
signed_by (Err e) lost = []

abbrev pub events_of : Move → List Event
events_of (Calls (Begins changes laid x)) = Begun changes laid ∷ []
events_of (Calls (Signs x lost)) = signs (signed_by x lost)
events_of (Calls (Looks q x)) = looks (seen_by q x)
events_of (Calls (Gives q block x)) = looks (seen_by q x)
events_of LacksLeaves = Unbegun ∷ []
events_of LacksPlan = Unplanned ∷ []
events_of other = []

abbrev pub events : List Move → List Event
events [] = []
events (m ∷ ms) = events_of m ++ events ms

-- ---- from one place to another

-- by moves that tell this
pub record Went {T : Type 0} (answers : Answering T) (a b : At T) (es : List Event) : Type 0 where
  pub moves : List Move
  pub run : Moves answers a moves b
  pub told : events moves ≡ es

-- by looks, which tell that this is so of each tree that agrees with them
pub record Looked {T : Type 0} (answers : Answering T) (a b : At T) (P : Tree → Type 0) : Type 0 where
  pub seen : List Seen
  pub went : Went answers a b (looks seen)
  pub tells : (tree : Tree) → Agrees tree seen → P tree

-- by the end of an operation that was declared before
pub record Finished {T : Type 0} (answers : Answering T) (a b : At T) (P : List (List ℕ) → Type 0) : Type 0 where
  pub signed : List (List ℕ)
  pub went : Went answers a b (signs signed)
  pub lost : P signed

-- by an operation of these changes, for which these texts were laid out
pub record Operated {T : Type 0} (answers : Answering T) (a b : At T) (changes : List (Change Digest))
    (laid : List Bytes) (P : List (List ℕ) → Type 0) : Type 0 where
  pub signed : List (List ℕ)
  pub went : Went answers a b (Begun changes laid ∷ signs signed)
  pub lost : P signed
