-- What a session promises where a name is changed: two commands, one after the other. The old name is taken away only
-- once the new one is there.
use Rattle.std.specs.Prelude.{◌≡◌, Bool, true, false, if◌then◌else◌, [], ◌∷◌, Option, Some, None, Result}
use Rattle.std.specs.Borrow.{Bor}
use Rattle.std.specs.Str.{bytes_eq}
use Rattle.layout.specs.Types.{Bytes}
use Rattle.commands.specs.Answers.{Answer, Done, Lost, Refused}
use Rattle.commands.specs.Asked.{early}
use Rattle.commands.specs.declared.answer.Refusal.{Refusal}
use Rattle.commands.specs.declared.answer.Refusal.TheVariants as refusal
use Rattle.commands.specs.declared.command.Command.{Command}
use Rattle.commands.specs.declared.command.Command.TheVariants as command
use Rattle.client_verify.specs.State.{State}
use Rattle.file_session.specs.declared.stop.Stop.{Stop}
use Rattle.file_session.specs.Sessions.{Ran, Resumed, answered}
use Rattle.file_session.specs.Went.{Answering}

-- a command was refused by itself, and nothing was sent; or it was carried out
abbrev pub WasRun : {T : Type 0} → Answering T → State → T → Command → State → T → Option Resumed → Answer
    → Option Refusal → Type 0
WasRun answers s t c new t' resumed answer (Some why) =
    (new ≡ s) × (t' ≡ t) × (resumed ≡ None) × (answer ≡ Refused why)
WasRun answers s t c new t' resumed answer None =
    (r : Result Answer Stop) × Ran answers s t s.user c new t' resumed r × (answer ≡ answered r)

abbrev pub HasRun : {T : Type 0} → Answering T → State → T → Command → State → T → Option Resumed → Answer → Type 0
HasRun answers s t c new t' resumed answer = WasRun answers s t c new t' resumed answer (early c)

-- the new name was given just now, or it is there
abbrev pub is_there : Answer → Bool
is_there Done = true
is_there (Refused refusal.There) = true
is_there other = false

-- the first change alone had no effect: the new name, which is given again, was still there
abbrev pub is_kept : Answer → Bool
is_kept (Lost numbers) = bytes_eq numbers (1 ∷ [])
is_kept other = false

-- what is told of the second command: that is no loss
abbrev pub told_of_drop : Answer → Answer
told_of_drop last = if is_kept last then Done else last

-- once it is there, the old name is taken away
abbrev pub Drops : {T : Type 0} → Answering T → State → T → Bor Bytes → Bor Bytes → State → T → Answer → Answer → Bool
    → Type 0
Drops answers s t path to new t' answer first true = (again : Option Resumed) × (last : Answer)
    × HasRun answers s t (command.DropName path to) new t' again last × (answer ≡ told_of_drop last)
Drops answers s t path to new t' answer first false = (new ≡ s) × (t' ≡ t) × (answer ≡ first)

-- What the name `path` stands for gets the name `to`, and loses that one. What was finished first is told of the first
-- command, and what came of it of the last one. That one gives the new name once more, before it takes the old one
-- away: where two users who may write in both directories move in opposite directions, one of both names is left.
pub record HasRenamed {T : Type 0} (answers : Answering T) (s : State) (t : T) (path to : Bor Bytes) (new : State)
    (t' : T) (resumed : Option Resumed) (answer : Answer) : Type 0 where
  pub between : State
  pub over : T
  pub first : Answer
  pub adds : HasRun answers s t (command.AddName path to) between over resumed first
  pub drops : Drops answers between over path to new t' answer first (is_there first)
