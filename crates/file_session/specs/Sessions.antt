-- What a session promises.
use Rattle.std.specs.Prelude.{◌≡◌, ◌⊎◌, ℕ, false, List, [], ◌∷◌, ◌++◌, map, Option, Some, None, Result, Ok, Err}
use Rattle.layout.specs.Types.{Bytes, Digest, User, Version}
use Rattle.directory.specs.Directory.{Entry}
use Rattle.update_cert.specs.Change.{Change}
use Rattle.update_cert.specs.World.{Content, Tree}
use Rattle.client_releases.specs.declared.error.ClientError.{ClientError}
use Rattle.client_releases.specs.declared.error.ClientError.TheVariants as error
use Rattle.client_releases.specs.declared.phase.Phase.{Phase}
use Rattle.client_releases.specs.declared.phase.Phase.TheVariants as phase
use Rattle.client_verify.specs.State.{State}
use Rattle.commands.specs.Answers.{Answer, Broken, Declined, Details, Refused}
use Rattle.commands.specs.Asked.{Outcome, Tells, Writes, outcome, row_of, told_of_lost}
use Rattle.commands.specs.declared.answer.Refusal.{Refusal}
use Rattle.commands.specs.declared.answer.Refusal.TheVariants as refusal
use Rattle.commands.specs.declared.command.Command.{Command}
use Rattle.file_session.specs.declared.stop.Stop.{Stop}
use Rattle.file_session.specs.declared.stop.Stop.TheVariants as stop
use Rattle.file_session.specs.Declaring.{all_declared, all_texts}
use Rattle.file_session.specs.Given.{IsGiven}
use Rattle.file_session.specs.Calls.{AsksForLacking}
use Rattle.file_session.specs.Order.{Move, Calls, ready_or, resuming}
use Rattle.file_session.specs.Synced.{AllSignSynced}
use Rattle.file_session.specs.Went.{Agrees, Answering, At, Event, Begun, Seen, Signed, Unbegun, Unplanned, events}
use Rattle.file_session.specs.Went.{looks, Moves}
use Rattle.file_session.specs.Went.{point, signs}

-- ---- what was finished first

-- a declared operation that was finished: its number, and the numbers of its changes that had no effect
pub record Resumed : Type 0 where
  pub number : Version
  pub lost : List ℕ

-- It was declared, and finished with these void changes; or none was declared.
abbrev pub IsFinished : State → List (List ℕ) → Option Resumed → Type 0
IsFinished s signed None = (signed ≡ []) × (s.phase ≡ phase.Declared → ⊥)
IsFinished s signed (Some r) = (s.phase ≡ phase.Declared) × (r.number ≡ s.number) × (signed ≡ r.lost ∷ [])

abbrev pub IsStopped : {X : Type 0} → Result X Stop → Type 0
IsStopped (Ok x) = ⊥
IsStopped (Err e) = Unit {0}

-- an operation is declared or signed, or the client failed
abbrev pub IsUnfinished : State → Type 0
IsUnfinished s = s.phase ≡ phase.Idle → ⊥

-- Where the command's own operations were reached, it was finished before them; else something stopped the session
-- while it finished this, and it isn't finished yet.
abbrev pub IsResumed : {X : Type 0} → State → List (List ℕ) → List Event → Result X Stop → Option Resumed → State
    → Type 0
IsResumed s signed [] result resumed new = IsStopped result × (resumed ≡ None) × IsUnfinished new
IsResumed s signed (e ∷ es) result resumed new = IsFinished s signed resumed

-- ---- the write

-- at most one structure was signed, and it isn't committed
abbrev pub IsUncommitted : List (List ℕ) → State → Type 0
IsUncommitted [] s = Unit {0}
IsUncommitted (lost ∷ []) s = IsUnfinished s
IsUncommitted (lost ∷ (other ∷ signed)) s = ⊥

-- What tells of an operation: with its view signed and committed, the changes that it lost. Nothing stops it once it is
-- committed.
abbrev pub IsWritten : List Event → Result Answer Stop → State → Type 0
IsWritten es (Ok answer) new = (lost : List ℕ) × (es ≡ Signed lost ∷ []) × (answer ≡ told_of_lost lost)
IsWritten es (Err e) new = (signed : List (List ℕ)) × (es ≡ signs signed) × IsUncommitted signed new

-- the command asks for these changes in each tree that agrees with the looks
abbrev pub Asks : User → Command → List Seen → List (Change Content) → Type 0
Asks u c seen wanted = (tree : Tree) → Agrees tree seen → outcome u c tree ≡ Writes wanted

-- these changes and texts are what the command asks for
pub record IsAsked (u : User) (c : Command) (seen : List Seen) (changes : List (Change Digest)) (laid : List Bytes)
    : Type 0 where
  pub wanted : List (Change Content)
  pub asked : Asks u c seen wanted
  pub changes_are : changes ≡ all_declared wanted
  pub laid_are : laid ≡ all_texts wanted

-- Memory is needed for what comes of it, as it follows from these looks: for certain changes, or for the rows of
-- certain entries.
abbrev pub NeedsMemory : (Tree → Outcome) → List Seen → Type 0
NeedsMemory comes seen =
    ((wanted : List (Change Content)) × ((tree : Tree) → Agrees tree seen → comes tree ≡ Writes wanted))
    ⊎ ((entries : List Entry)
    × ((tree : Tree) → Agrees tree seen → comes tree ≡ Tells (Details (map (row_of tree) entries))))

-- After these looks: the answer is the one that is told in each tree that agrees with them; or the operation that is
-- asked for was begun, for which its texts were stored, or wasn't, for want of leaves; or memory was refused; or
-- something stopped the session.
abbrev pub IsDone : User → Command → List Seen → List Event → Result Answer Stop → State → Type 0
IsDone u c seen [] (Ok answer) new = (tree : Tree) → Agrees tree seen → outcome u c tree ≡ Tells answer
IsDone u c seen [] (Err e) new = Unit {0}
IsDone u c seen (Begun changes laid ∷ es) result new = IsAsked u c seen changes laid × IsWritten es result new
IsDone u c seen (Unbegun ∷ []) (Err e) new = (wanted : List (Change Content)) × Asks u c seen wanted
IsDone u c seen (Unplanned ∷ []) (Err e) new = NeedsMemory (outcome u c) seen
IsDone u c seen other result new = ⊥

-- first a look, an operation without changes; then looks in its view; then the write that they ask for, if they do
pub record IsCarriedOut (u : User) (c : Command) (es : List Event) (result : Result Answer Stop) (new : State)
    : Type 0 where
  pub signed : List (List ℕ)
  pub seen : List Seen
  pub written : List Event
  pub order : es ≡ Begun [] [] ∷ (signs signed ++ (looks seen ++ written))
  -- the look was stopped before it had its view, or it has it
  pub done : ((signed ≡ []) × (seen ≡ []) × (written ≡ []) × IsStopped result)
      ⊎ ((lost : List ℕ) × (signed ≡ lost ∷ []) × IsDone u c seen written result new)

-- nothing, where what was to be finished first was stopped; nor the look, for want of leaves
abbrev pub IsCommand : User → Command → List Event → Result Answer Stop → State → Type 0
IsCommand u c [] result new = Unit {0}
IsCommand u c (Unbegun ∷ []) result new = IsStopped result
IsCommand u c (e ∷ es) result new = IsCarriedOut u c (e ∷ es) result new

-- ---- what is told

abbrev pub refused_by : ClientError → Refusal
refused_by error.Memory = refusal.Memory
refused_by error.NoLeaf = refusal.NoLeaf
refused_by error.Device = refusal.Device
refused_by error.NoNumber = refusal.NoNumber
refused_by error.Foreign = refusal.Foreign
refused_by error.Damaged = refusal.Damaged
refused_by error.NoKey = refusal.NoKey

-- of what stopped a session
abbrev pub stopped_by : Stop → Answer
stopped_by (stop.Client e) = Refused (refused_by e)
stopped_by (stop.Broken rule) = Broken rule
stopped_by (stop.Declined status) = Declined status
stopped_by stop.Cut = Refused refusal.Cut
stopped_by stop.Memory = Refused refusal.Memory

abbrev pub answered : Result Answer Stop → Answer
answered (Ok answer) = answer
answered (Err e) = stopped_by e

-- What stopped the session is what the last move gave; a client that has failed does nothing.
abbrev pub IsGivenFrom : {X : Type 0} → Phase → List Move → Result X Stop → Type 0
IsGivenFrom phase.Failed moves result = moves ≡ []
IsGivenFrom other moves result = IsGiven moves result

-- ---- how often a block is asked for

-- Each block that is asked for is lacking then; and where one was handed in and another is asked for, more blocks are held
-- than before: so within one reply, and within one look, none is taken twice.
abbrev pub AreAskedOnce : {T : Type 0} (answers : Answering T) (a : At T) (ms : List Move) (b : At T)
    → Moves answers a ms b → Type 0
AreAskedOnce answers a [] b run = Unit {0}
AreAskedOnce answers a (Calls call ∷ ms) b (mid, one, more) =
    AsksForLacking a.client call mid.client × AreAskedOnce answers mid ms b more
AreAskedOnce answers a (other ∷ ms) b (mid, one, more) = AreAskedOnce answers mid ms b more

-- ---- a session

-- A session carries out a command: by moves of its client and its transport, in the order of operations, what was
-- declared or signed before is finished first, and then the command is carried out.
pub record Ran {T : Type 0} (answers : Answering T) (s : State) (t : T) (u : User) (c : Command) (new : State) (t' : T)
    (resumed : Option Resumed) (result : Result Answer Stop) : Type 0 where
  pub moves : List Move
  pub signed : List (List ℕ)
  pub es : List Event
  pub run : Moves answers (point s t (resuming s.phase s.text)) moves (point new t' (ready_or result))
  pub order : events moves ≡ signs signed ++ es
  pub finished : IsResumed s signed es result resumed new
  pub carried : IsCommand u c es result new
  pub given : IsGivenFrom s.phase moves result
  pub synced : AllSignSynced false moves
  pub once : AreAskedOnce answers (point s t (resuming s.phase s.text)) moves (point new t' (ready_or result)) run
