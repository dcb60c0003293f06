-- What happens to a user's client: it is opened, carries out commands by sessions, is closed, and crashes.
use Rattle.std.specs.Prelude.{◌≡◌, true, List, [], ◌∷◌, Option, Result}
use Rattle.std.specs.List.{flat_map}
use Rattle.layout.specs.Types.{User}
use Rattle.client_verify.specs.State.{State}
use Rattle.client_steps.specs.Steps.{Client, IsSound, IsStep, Open, Owner, StepTaken, first}
use Rattle.client_runs.specs.OfUsers.{steps_of}
use Rattle.client_runs.specs.Runs.{Event, IsRun, Keys, client_of, owner}
use Rattle.commands.specs.Answers.{Answer}
use Rattle.commands.specs.declared.command.Command.{Command}
use Rattle.fork_consistency.specs.Premises.{AreKeys, Premises}
use Rattle.file_session.specs.declared.stop.Stop.{Stop}
use Rattle.file_session.specs.Calls.{step_of}
use Rattle.file_session.specs.Order.{Calls, Move, resuming}
use Rattle.file_session.specs.Sessions.{Ran, Resumed}
use Rattle.file_session.specs.Told.{Told, can_tell}
use Rattle.file_session.specs.Went.{Answering, At, Moves, point}

-- ---- deeds

-- where a session begins, with this client and this transport
abbrev pub start : {T : Type 0} → State → T → At T
start s t = point s t (resuming s.phase s.text)

-- a command that a session carried out: the client and the transport before it and after it, and what it told
pub record Carried {T : Type 0} (answers : Answering T) : Type 0 where
  pub command : Command
  pub before : State
  pub over : T
  pub after : State
  pub left : T
  pub resumed : Option Resumed
  pub result : Result Answer Stop
  pub ran : Ran answers before over before.user command after left resumed result

-- a command that a session told in the view that its client had: the client and the transport before it and after it,
-- and what it told
pub record Showing {T : Type 0} (answers : Answering T) : Type 0 where
  pub command : Command
  pub before : State
  pub over : T
  pub after : State
  pub left : T
  pub result : Result Answer Stop
  pub can : can_tell before command ≡ true
  pub told : Told answers before over command after left result

-- A session as far as it came: a crash may follow after any of its moves. One inside a call is a call whose device
-- fails, and then a crash.
pub record CutShort {T : Type 0} (answers : Answering T) : Type 0 where
  pub before : State
  pub over : T
  pub moves : List Move
  pub reached : At T
  pub run : Moves answers (start before over) moves reached

-- A session carries out a command, or tells it in the view that its client has, or is cut short. Or the client takes a
-- step by itself: it is opened, or refused, it is closed, it gains a key while it is, or it crashes.
pub data Deed {T : Type 0} (answers : Answering T) : Type 0 where
  Carries : Carried answers → Deed answers
  Reads : Showing answers → Deed answers
  IsCut : CutShort answers → Deed answers
  Takes : StepTaken → Deed answers

-- ---- their steps

-- the calls of these moves are the client's steps in them, the first first
abbrev pub steps_in : {T : Type 0} (answers : Answering T) (a : At T) (ms : List Move) (b : At T) → Moves answers a ms b
    → List StepTaken
steps_in answers a [] b run = []
steps_in answers a (Calls call ∷ ms) b (mid, one, more) =
    record { call = step_of call; after = Open mid.client } ∷ steps_in answers mid ms b more
steps_in answers a (other ∷ ms) b (mid, one, more) = steps_in answers mid ms b more

abbrev pub steps_by : {T : Type 0} (answers : Answering T) → Deed answers → List StepTaken
steps_by answers (Carries c) = steps_in answers _ c.ran.moves _ c.ran.run
steps_by answers (Reads c) = steps_in answers _ c.told.moves _ c.told.run
steps_by answers (IsCut c) = steps_in answers _ c.moves c.reached c.run
steps_by answers (Takes s) = s ∷ []

-- from the client before a deed to the one after it
abbrev pub Leads : {T : Type 0} (answers : Answering T) → Owner → Client → Deed answers → Client → Type 0
Leads answers o before (Carries c) after = (before ≡ Open c.before) × (after ≡ Open c.after)
Leads answers o before (Reads c) after = (before ≡ Open c.before) × (after ≡ Open c.after)
Leads answers o before (IsCut c) after = (before ≡ Open c.before) × (after ≡ Open c.reached.client)
Leads answers o before (Takes s) after = IsStep o before s.call s.after × IsSound s.after × (after ≡ s.after)

-- ---- lives

-- these deeds, one after another
abbrev pub IsLife : {T : Type 0} (answers : Answering T) → Owner → Client → List (Deed answers) → Client → Type 0
IsLife answers o before [] after = after ≡ before
IsLife answers o before (d ∷ later) after =
    (mid : Client) × Leads answers o before d mid × IsLife answers o mid later after

-- Each user's client has such a life from the beginning on, and the run has its steps, in any order among other users'.
pub record AreLives {T : Type 0} (answers : Answering T) (keys : Keys) (lives : User → List (Deed answers))
    (run : List Event) : Type 0 where
  pub lived : (u : User) → IsLife answers (owner keys u) first (lives u) (client_of u run)
  pub steps : (u : User) → steps_of u run ≡ flat_map (steps_by answers) (lives u)

-- ---- what is proved of them

-- they are a run of all users' clients
abbrev pub LivesAreRuns : {T : Type 0} → Answering T → Type 0
LivesAreRuns answers = (keys : Keys) (lives : User → List (Deed answers)) (run : List Event)
    → AreLives answers keys lives run → IsRun keys run

-- what holds of each of them that meets the premises
abbrev pub EachLives : {T : Type 0} → Answering T → (Keys → List Event → Type 0) → Type 0
EachLives answers holds = (keys : Keys) (lives : User → List (Deed answers)) (run : List Event)
    → AreLives answers keys lives run → AreKeys keys → Premises keys run → holds keys run
