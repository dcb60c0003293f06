-- Turns: one block after another.
use Rattle.std.proofs.Common.{◌≡◌, refl, Option, Some, None, Result, Ok, Err, IfOk, subst, List}
use Rattle.update_cert.specs.World.{Tree}
use Rattle.client_tree.specs.declared.questions.Question.{Question}
use Rattle.client_tree.specs.declared.questions.Question.TheVariants as question
use Rattle.client_releases.specs.declared.error.ClientError.{ClientError}
use Rattle.client_verify.specs.declared.look.Look.{Look}
use Rattle.client_verify.specs.declared.look.Look.TheVariants as look
use Rattle.std.specs.Prelude.{IsSome, IsSomeAnd}
use Rattle.client_verify.specs.Standing.{IsLacking}
use Rattle.client_verify.specs.State.{AcceptedView, State}
use Rattle.client_steps.specs.Anywhere.{on_ok, seen}
use Rattle.file_session.specs.declared.stop.Stop.{Stop}
use Rattle.file_session.specs.declared.turn.Turn.{Turn}
use Rattle.file_session.specs.declared.turn.Turn.TheVariants as turn
use Rattle.file_session.specs.Order.{Next, looking}
use Rattle.file_session.specs.Waits.{AwaitsTurnAt, Fits, IsTold, ShowsTurn, WaitsAt, questioning}
use Rattle.file_session.specs.Went.{Answering, At, Event, IsSeenIn, Looked, Went, point}
use Rattle.file_session.proofs.Looks.{ShowsIn, looked_so}

shown_fits : {A : Type 0} (tree : Tree) (q : Question) (told : Look A) → Fits q told → ShowsIn q (Ok (seen told)) tree → IsSeenIn tree q (seen told)
shown_fits tree (question.At p i) (look.File bytes) f h = h
shown_fits tree (question.At p i) (look.Dir entries) f h = h
shown_fits tree (question.At p i) look.None f h = h
shown_fits tree (question.Kind p i) (look.Kind kind) f h = h
shown_fits tree (question.Free p first last) (look.Free found) f h = h
shown_fits tree q told f h = absurd f

some_view : (q : Question) (s : State) (v : Option AcceptedView) → IsSomeAnd v (λ v. IsSomeAnd v.looking (λ l. (l.question ≡ q) × IsLacking s l.asked)) → IsSome v
some_view q s None w = absurd w
some_view q s (Some v) w = refl

-- who waits for a block of a look has a view
pub waits_in_view : (q : Question) (s : State) → WaitsAt q s → IsSome s.view
waits_in_view q s w = some_view q s s.view w

module _ {A : Type 0} (s : State) (q : Question) (x : Result (Look A) ClientError) where
  shows : (r : Result (Turn (Look A)) Stop) → IfOk r (λ t. IsTold t x) → IfOk r (λ t. AwaitsTurnAt q t s) → (tree : Tree) → ShowsIn q (on_ok seen x) tree → IfOk r (λ t. ShowsTurn tree q t)
  shows (Err e) told fits tree h = tt
  shows (Ok (turn.Asks digest)) told fits tree h = tt
  shows (Ok (turn.Ends answer)) told fits tree h =
      let P : Result (Look A) ClientError → Type 0 = λ y. ShowsIn q (on_ok seen y) tree in shown_fits tree q answer fits (subst P told h)

module _ {T : Type 0} {answers : Answering T} where
  pub went_to : {a : At T} {m : State} {t : T} {now next : Next} {es : List Event} → now ≡ next → Went answers a (point m t now) es → Went answers a (point m t next) es
  went_to {a} {m} {t} {es = es} is h = let P : Next → Type 0 = λ n. Went answers a (point m t n) es in subst P is h

  -- what a look told is what its turn tells
  pub looks_turn : {A : Type 0} (s : State) {a : At T} {m : State} {t : T} (q : Question) (x : Result (Look A) ClientError) (r : Result (Turn (Look A)) Stop)
      → looking q (on_ok seen x) ≡ questioning q r → IfOk r (λ t. IsTold t x) → IfOk r (λ t. AwaitsTurnAt q t s)
      → Looked answers a (point m t (looking q (on_ok seen x))) (ShowsIn q (on_ok seen x))
      → Looked answers a (point m t (questioning q r)) (λ tree. IfOk r (λ t. ShowsTurn tree q t))
  looks_turn {A} s {a} {m} {t} q x r next told fits h =
      let P : Next → Type 0 = λ n. Looked answers a (point m t n) (ShowsIn q (on_ok seen x)) in
      looked_so (λ tree. IfOk r (λ t. ShowsTurn tree q t)) (subst P next h) (λ tree so. shows s q x r told fits tree so)
