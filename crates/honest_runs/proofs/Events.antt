-- What clients do in an honest run, and which calls the server carries out in it.
use Rattle.std.specs.Prelude.{◌≡◌, List, [], ◌∷◌, ◌++◌, Option, Some, None, IfSome, option_and_then, option_to_list}
use Rattle.std.proofs.Common.{refl, sym, subst}
use Rattle.layout.specs.Types.{User}
use Rattle.client_steps.specs.Steps.{IsSound, IsStep, StepTaken}
use Rattle.client_runs.specs.Runs.{Event, IsRun, Keys, client_of, owner}
use Rattle.consistency_server.specs.Answers.{Call}
use Rattle.honest_runs.specs.HonestRuns.{AreRuns, HonestEvent, carried_out, events, history}

-- ---- what clients do

-- the events, with what a user's client does
abbrev pub events_with : User → Option StepTaken → List Event → List Event
events_with u None older = older
events_with u (Some s) older = record { user = u; call = s.call; after = s.after } ∷ older

pub with_step : (h : HonestEvent) (older : List HonestEvent) → events (h ∷ older) ≡ events_with h.user h.step (events older)
with_step h older = go h.step refl
  where
    go : (s : Option StepTaken) → h.step ≡ s → events (h ∷ older) ≡ events_with h.user h.step (events older)
    go None is = rw is refl
    go (Some s) is = rw is refl

pub is_run_with : (keys : Keys) (u : User) (s : Option StepTaken) (older : List Event) → IfSome s (λ t. IsStep (owner keys u) (client_of u older) t.call t.after × IsSound t.after)
    → IsRun keys older → IsRun keys (events_with u s older)
is_run_with keys u None older taken run = run
is_run_with keys u (Some s) older taken run = (taken.0, taken.1, run)

pub are_runs : AreRuns
are_runs keys [] run = tt
are_runs keys (h ∷ older) run =
    subst (λ (es : List Event). IsRun keys es) (sym (with_step h older)) (is_run_with keys h.user h.step (events older) (run.0).taken (are_runs keys older run.1))

-- ---- what there is

pub with_exchange : (h : HonestEvent) (older : List HonestEvent) → history (h ∷ older) ≡ option_to_list (option_and_then carried_out h.exchange) ++ history older
with_exchange h older = go (option_and_then carried_out h.exchange) refl
  where
    go : (c : Option Call) → option_and_then carried_out h.exchange ≡ c → history (h ∷ older) ≡ option_to_list (option_and_then carried_out h.exchange) ++ history older
    go None is = rw is refl
    go (Some c) is = rw is refl
