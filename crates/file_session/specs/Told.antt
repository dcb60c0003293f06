-- What a session promises of a command that it carries out in the view that was accepted last.
use Rattle.std.specs.Prelude.{◌≡◌, ◌&&◌, ◌++◌, Bool, true, false, is_some, List, [], ◌∷◌, Result, Ok, Err}
use Rattle.std.specs.List.{All}
use Rattle.layout.specs.Types.{User}
use Rattle.update_cert.specs.World.{Tree}
use Rattle.wire.specs.declared.kinds.RequestKind.{RequestKind}
use Rattle.wire.specs.declared.kinds.RequestKind.TheVariants as kind
use Rattle.client_releases.specs.declared.phase.Phase.{Phase}
use Rattle.client_releases.specs.declared.phase.Phase.TheVariants as phase
use Rattle.client_verify.specs.State.{State}
use Rattle.commands.specs.Answers.{Answer}
use Rattle.commands.specs.Asked.{Tells, only_reads, outcome}
use Rattle.commands.specs.declared.command.Command.{Command}
use Rattle.file_session.specs.declared.stop.Stop.{Stop}
use Rattle.file_session.specs.Given.{IsGiven}
use Rattle.file_session.specs.Calls.{Gives, Looks}
use Rattle.file_session.specs.Order.{Calls, LacksPlan, Move, Ready, Sends, ready_or}
use Rattle.file_session.specs.Sessions.{AreAskedOnce, NeedsMemory}
use Rattle.file_session.specs.Went.{Agrees, Answering, Event, Moves, Seen, Unplanned, events, looks}
use Rattle.file_session.specs.Went.{point}

abbrev pub is_idle : Phase → Bool
is_idle phase.Idle = true
is_idle other = false

-- A move that makes no operation: a question about the accepted view, an exchange for blocks, or want of memory.
abbrev pub IsForBlocks : RequestKind → Type 0
IsForBlocks kind.Put = Unit {0}
IsForBlocks kind.Sync = Unit {0}
IsForBlocks kind.Get = Unit {0}
IsForBlocks other = ⊥

abbrev pub MakesNothing : Move → Type 0
MakesNothing (Calls (Looks q x)) = Unit {0}
MakesNothing (Calls (Gives q block x)) = Unit {0}
MakesNothing (Sends r x) = IsForBlocks r.kind
MakesNothing LacksPlan = Unit {0}
MakesNothing other = ⊥

-- it only reads, there is a view to read in, and nothing is to be finished first
abbrev pub can_tell : State → Command → Bool
can_tell s c = only_reads c && (is_some s.view && is_idle s.phase)

-- After these looks: the answer is the one that is told in each tree that agrees with them; or memory was refused; or
-- something stopped the session.
abbrev pub IsShown : User → Command → List Seen → List Event → Result Answer Stop → Type 0
IsShown u c seen [] (Ok answer) = (tree : Tree) → Agrees tree seen → outcome u c tree ≡ Tells answer
IsShown u c seen [] (Err e) = Unit {0}
IsShown u c seen (Unplanned ∷ []) (Err e) = NeedsMemory (outcome u c) seen
IsShown u c seen other result = ⊥

-- By moves that make no operation: looks into the accepted view, from which it follows what the command comes to.
pub record Told {T : Type 0} (answers : Answering T) (s : State) (t : T) (c : Command) (new : State) (t' : T)
    (result : Result Answer Stop) : Type 0 where
  pub moves : List Move
  pub seen : List Seen
  pub es : List Event
  pub run : Moves answers (point s t (Ready [])) moves (point new t' (ready_or result))
  pub quiet : All MakesNothing moves
  pub order : events moves ≡ looks seen ++ es
  pub shown : IsShown s.user c seen es result
  pub given : IsGiven moves result
  pub once : AreAskedOnce answers (point s t (Ready [])) moves (point new t' (ready_or result)) run
