-- Users' steps in any order are a run, and each run is users' steps.
use Rattle.std.proofs.Common.{◌≡◌, Bool, true, false, ◌==◌, List, [], ◌∷◌, ◌++◌, refl, sym, ◌∙◌, subst, if◌then◌else◌}
use Rattle.std.proofs.lemmas.Bool.{eq-eqb, eqb-true}
use Rattle.layout.specs.Types.{User}
use Rattle.client_steps.specs.Steps.{AreSteps, Client, IsSound, IsStep, Owner, StepTaken, first}
use Rattle.client_steps.proofs.Joins.{steps_join}
use Rattle.client_runs.specs.Runs.{Event, Keys, client_of, owner}
use Rattle.client_runs.specs.OfUsers.{RunsAreSteps, StepsAreRuns, step_in, steps_of}

-- ---- steps, and a last one

-- where steps lead
abbrev last_of : Client → List StepTaken → Client
last_of a [] = a
last_of a (s ∷ later) = last_of s.after later

leads_to : (o : Owner) (a : Client) (steps : List StepTaken) (b : Client) → AreSteps o a steps b → b ≡ last_of a steps
leads_to o a [] b is = is
leads_to o a (s ∷ later) b is = leads_to o s.after later b is.2

to_last : (a : Client) (steps : List StepTaken) (s : StepTaken) → last_of a (steps ++ s ∷ []) ≡ s.after
to_last a [] s = refl
to_last a (x ∷ steps) s = to_last x.after steps s

-- the client before the last of these steps, to which the others led
record AreBefore (o : Owner) (a : Client) (earlier : List StepTaken) (s : StepTaken) : Type 0 where
  mid : Client
  steps : AreSteps o a earlier mid
  step : IsStep o mid s.call s.after
  sound : IsSound s.after

before_last : (o : Owner) (a : Client) (earlier : List StepTaken) (s : StepTaken) (b : Client) → AreSteps o a (earlier ++ s ∷ []) b → AreBefore o a earlier s
before_last o a [] s b is = record { mid = a; steps = refl; step = is.0; sound = is.1 }
before_last o a (x ∷ earlier) s b is =
    let more = before_last o x.after earlier s b is.2 in
    record { mid = more.mid; steps = (is.0, is.1, more.steps); step = more.step; sound = more.sound }

-- a user's client is where its steps led
client_is_last : (u : User) (run : List Event) → client_of u run ≡ last_of first (steps_of u run)
client_is_last u [] = refl
client_is_last u (e ∷ older) = go (e.user == u) (client_is_last u older)
  where
    go : (b : Bool) → client_of u older ≡ last_of first (steps_of u older) → (if b then e.after else client_of u older) ≡ last_of first (if b then steps_of u older ++ step_in e ∷ [] else steps_of u older)
    go true before = sym (to_last first (steps_of u older) (step_in e))
    go false before = before

-- ---- users' steps are a run

module _ (keys : Keys) (e : Event) (older : List Event) (u : User) where
  -- the user's steps before the last one lead to its client before it
  led : AreBefore (owner keys u) first (steps_of u older) (step_in e) → AreSteps (owner keys u) first (steps_of u older) (client_of u older)
  led h =
      let at : h.mid ≡ client_of u older = leads_to (owner keys u) first (steps_of u older) h.mid h.steps ∙ sym (client_is_last u older) in
      subst (λ (c : Client). AreSteps (owner keys u) first (steps_of u older) c) at h.steps

  earlier : (b : Bool) → AreSteps (owner keys u) first (if b then steps_of u older ++ step_in e ∷ [] else steps_of u older) (if b then e.after else client_of u older)
      → AreSteps (owner keys u) first (steps_of u older) (client_of u older)
  earlier true is = led (before_last (owner keys u) first (steps_of u older) (step_in e) e.after is)
  earlier false is = is

  last_step : (b : Bool) → b ≡ true → AreSteps (owner keys u) first (if b then steps_of u older ++ step_in e ∷ [] else steps_of u older) (if b then e.after else client_of u older)
      → IsStep (owner keys u) (client_of u older) e.call e.after × IsSound e.after
  last_step true same is =
      let h = before_last (owner keys u) first (steps_of u older) (step_in e) e.after is in
      let at : h.mid ≡ client_of u older = leads_to (owner keys u) first (steps_of u older) h.mid h.steps ∙ sym (client_is_last u older) in
      (subst (λ (c : Client). IsStep (owner keys u) c e.call e.after) at h.step, h.sound)
  last_step false same is = absurd (cc same)

pub steps_are_runs : StepsAreRuns
steps_are_runs keys [] is = tt
steps_are_runs keys (e ∷ older) is =
    let last = last_step keys e older e.user (e.user == e.user) (eq-eqb e.user e.user refl) (is e.user) in
    (last.0, last.1, steps_are_runs keys older (λ u. earlier keys e older u (e.user == u) (is u)))

-- ---- and each run is users' steps

pub runs_are_steps : RunsAreSteps
runs_are_steps keys [] is u = refl
runs_are_steps keys (e ∷ older) is u = go (e.user == u) refl (runs_are_steps keys older is.2 u)
  where
    go : (b : Bool) → (e.user == u) ≡ b → AreSteps (owner keys u) first (steps_of u older) (client_of u older)
        → AreSteps (owner keys u) first (if b then steps_of u older ++ step_in e ∷ [] else steps_of u older) (if b then e.after else client_of u older)
    go true same before =
        let step = subst (λ (v : User). IsStep (owner keys v) (client_of v older) e.call e.after) (eqb-true e.user u same) is.0 in
        steps_join (owner keys u) first (client_of u older) e.after (steps_of u older) (step_in e ∷ []) before (step, is.1, refl)
    go false same before = before
