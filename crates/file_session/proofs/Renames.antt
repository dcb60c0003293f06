-- A name that is changed: two commands, one after the other.
use Rattle.std.proofs.Common.{◌≡◌, Bool, true, false, Option, Some, None, Result, IfSome, IsSome, refl, sym, subst, ◌∙◌}
use Rattle.std.specs.Borrow.{Bor}
use Rattle.layout.specs.Types.{Bytes}
use Rattle.client_verify.specs.State.{State}
use Rattle.commands.specs.Answers.{Answer, Refused}
use Rattle.commands.specs.Asked.{early}
use Rattle.commands.specs.declared.answer.Refusal.{Refusal}
use Rattle.commands.specs.declared.command.Command.{Command}
use Rattle.commands.specs.declared.command.Command.TheVariants as command
use Rattle.file_session.specs.declared.stop.Stop.{Stop}
use Rattle.file_session.specs.Renamed.{Drops, HasRenamed, HasRun, WasRun, is_there, told_of_drop}
use Rattle.file_session.specs.Sessions.{Ran, Resumed, answered}
use Rattle.file_session.specs.Went.{Answering}

-- the new name isn't there, and that is all
no_drop : {T : Type 0} (answers : Answering T) (s : State) (t : T) (path to : Bor Bytes) (new : State) (t' : T) (answer first : Answer) (b : Bool) → b ≡ false → new ≡ s → t' ≡ t → answer ≡ first → Drops answers s t path to new t' answer first b
no_drop answers s t path to new t' answer first true is same over told = absurd (cc is)
no_drop answers s t path to new t' answer first false is same over told = (same, over, told)

-- it is there
drops : {T : Type 0} (answers : Answering T) (s : State) (t : T) (path to : Bor Bytes) (new : State) (t' : T) (answer first last : Answer) (again : Option Resumed) (b : Bool) → b ≡ true → HasRun answers s t (command.DropName path to) new t' again last → answer ≡ told_of_drop last → Drops answers s t path to new t' answer first b
drops answers s t path to new t' answer first last again true is run told = (again, last, run, told)
drops answers s t path to new t' answer first last again false is run told = absurd (cc is)

module _ {T : Type 0} {answers : Answering T} where
  pub has_run : (s : State) (t : T) (c : Command) (new : State) (t' : T) (resumed : Option Resumed) (answer : Answer) → IfSome (early c) (λ why. answer ≡ Refused why) → (IsSome (early c) → new ≡ s) → (IsSome (early c) → t' ≡ t) → (IsSome (early c) → resumed ≡ None)
      → (early c ≡ None → (r : Result Answer Stop) × Ran answers s t s.user c new t' resumed r × (answer ≡ answered r)) → HasRun answers s t c new t' resumed answer
  has_run s t c new t' resumed answer why same over none ran = go (early c) why same over none ran
    where
      go : (o : Option Refusal) → IfSome o (λ why. answer ≡ Refused why) → (IsSome o → new ≡ s) → (IsSome o → t' ≡ t) → (IsSome o → resumed ≡ None)
          → (o ≡ None → (r : Result Answer Stop) × Ran answers s t s.user c new t' resumed r × (answer ≡ answered r)) → WasRun answers s t c new t' resumed answer o
      go None why same over none ran = ran refl
      go (Some refusal) why same over none ran = (same refl, over refl, none refl, why)

  pub not_renamed : (s : State) (t : T) (path to : Bor Bytes) (new : State) (t' : T) (resumed : Option Resumed) (answer : Answer) (b : Bool) → HasRun answers s t (command.AddName path to) new t' resumed answer → b ≡ is_there answer → b ≡ false → HasRenamed answers s t path to new t' resumed answer
  not_renamed s t path to new t' resumed answer b run there not = record {
    between = new;
    over = t';
    first = answer;
    adds = run;
    drops = no_drop answers new t' path to new t' answer answer (is_there answer) (sym there ∙ not) refl refl refl;
  }

  -- what was finished first is put back
  pub renamed : (s m new : State) (t o t' : T) (path to : Bor Bytes) (found resumed again : Option Resumed) (first last answer : Answer) (b : Bool) → HasRun answers s t (command.AddName path to) m o found first → b ≡ is_there first → b ≡ true → HasRun answers m o (command.DropName path to) new t' again last → answer ≡ told_of_drop last → resumed ≡ found
      → HasRenamed answers s t path to new t' resumed answer
  renamed s m new t o t' path to found resumed again first last answer b run there is more told same = record {
    between = m;
    over = o;
    first = first;
    adds = subst (λ (r : Option Resumed). HasRun answers s t (command.AddName path to) m o r first) (sym same) run;
    drops = drops answers m o path to new t' answer first last again (is_there first) (sym there ∙ is) more told;
  }
