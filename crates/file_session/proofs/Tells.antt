-- A command that only reads, from what looks told.
use Rattle.std.proofs.Common.{◌≡◌, ◌⊎◌, inl, inr, [], ◌∷◌, Ok, Err, true, refl, sym, subst, ◌∙◌, append-nil}
use Rattle.std.specs.Borrow.{Bor}
use Rattle.layout.specs.Types.{Bytes}
use Rattle.client_releases.specs.declared.phase.Phase.TheVariants as phase
use Rattle.client_verify.specs.State.{State}
use Rattle.commands.specs.Answers.{Answer as AnswerOf, answer_of}
use Rattle.commands.specs.Asked.{only_reads, outcome}
use Rattle.commands.specs.declared.answer.Answer.{Answer}
use Rattle.commands.specs.declared.command.Command.{Command}
use Rattle.commands.specs.declared.command.Command.TheVariants as command
use Rattle.file_session.specs.declared.planning.Plan.TheVariants as plan
use Rattle.file_session.specs.declared.stop.Stop.{Stop}
use Rattle.file_session.specs.Order.{Over, Ready}
use Rattle.file_session.specs.Parts.{CantPlan, Planned}
use Rattle.file_session.specs.Told.{Told}
use Rattle.file_session.specs.Went.{Answering, Looked, Unplanned, looks, point}
use Rattle.file_session.proofs.Given.{given_from}
use Rattle.file_session.proofs.Once.{asked_once}
use Rattle.file_session.proofs.Quiet.{AreOfLooks, all_quiet, are_of_looks}
use Rattle.file_session.proofs.Sessions.{tells_are}

-- a command that only reads is one of three
pub reads_one : (c : Command) → only_reads c ≡ true → ((path : Bor Bytes) → c ≡ command.Ls path → ⊥) → ((path : Bor Bytes) → c ≡ command.Details path → ⊥) → ((path : Bor Bytes) → c ≡ command.Cat path → ⊥) → ⊥
reads_one (command.Ls path) reads ls details cat = ls path refl
reads_one (command.Details path) reads ls details cat = details path refl
reads_one (command.Cat path) reads ls details cat = cat path refl
reads_one other reads ls details cat = cc reads

module _ {T : Type 0} {answers : Answering T} where
  stopped : (s new : State) (t t' : T) (c : Command) (e : Stop)
      → (Looked answers (point s t (Ready [])) (point new t' (Over e)) (λ tree. Unit {0}) ⊎ CantPlan answers (point s t (Ready [])) (point new t' (Over e)) (outcome s.user c)) → Told answers s t c new t' (Err e)
  stopped s new t t' c e (inl h) = record {
    moves = h.went.moves;
    seen = h.seen;
    es = [];
    run = h.went.run;
    quiet = all_quiet answers (point s t (Ready [])) (point new t' (Over e)) h.went.moves tt h.went.run (subst AreOfLooks (sym (h.went.told ∙ sym (append-nil (looks h.seen)))) (are_of_looks h.seen [] tt));
    order = h.went.told ∙ sym (append-nil (looks h.seen));
    shown = tt;
    given = given_from {X = AnswerOf} answers (point s t (Ready [])) (point new t' (Over e)) phase.Idle [] h.went.moves (Err e) refl refl h.went.run;
    once = asked_once answers (point s t (Ready [])) h.went.moves (point new t' (Over e)) h.went.run;
  }
  stopped s new t t' c e (inr h) = record {
    moves = h.went.moves;
    seen = h.seen;
    es = Unplanned ∷ [];
    run = h.went.run;
    quiet = all_quiet answers (point s t (Ready [])) (point new t' (Over e)) h.went.moves tt h.went.run (subst AreOfLooks (sym h.went.told) (are_of_looks h.seen (Unplanned ∷ []) (tt, tt)));
    order = h.went.told;
    shown = h.needs;
    given = given_from {X = AnswerOf} answers (point s t (Ready [])) (point new t' (Over e)) phase.Idle [] h.went.moves (Err e) refl refl h.went.run;
    once = asked_once answers (point s t (Ready [])) h.went.moves (point new t' (Over e)) h.went.run;
  }

  pub told_not : {A : Type 0} (s new : State) (t t' : T) (c : Command) (e : Stop) → Planned {A = A} answers (point s t (Ready [])) (point new t' (Over e)) (outcome s.user c) (Err e) → Told answers s t c new t' (Err e)
  told_not s new t t' c e p = stopped s new t t' c e p.looked

  pub told : {A : Type 0} (s new : State) (t t' : T) (c : Command) (x : Answer A) → Planned {A = A} answers (point s t (Ready [])) (point new t' (Ready [])) (outcome s.user c) (Ok (plan.Tells x)) → Told answers s t c new t' (Ok (answer_of x))
  told s new t t' c x p = record {
    moves = p.looked.went.moves;
    seen = p.looked.seen;
    es = [];
    run = p.looked.went.run;
    quiet = all_quiet answers (point s t (Ready [])) (point new t' (Ready [])) p.looked.went.moves tt p.looked.went.run (subst AreOfLooks (sym (p.looked.went.told ∙ sym (append-nil (looks p.looked.seen)))) (are_of_looks p.looked.seen [] tt));
    order = p.looked.went.told ∙ sym (append-nil (looks p.looked.seen));
    shown = λ tree agrees. p.looked.tells tree agrees ∙ tells_are p.outcome x p.is_plan;
    given = tt;
    once = asked_once answers (point s t (Ready [])) p.looked.went.moves (point new t' (Ready [])) p.looked.went.run;
  }
