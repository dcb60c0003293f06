-- Steps that were carried out: they are a run.
use Rattle.std.specs.Prelude.{◌≡◌, ℕ, ◌+◌, ◌*◌, ◌==◌, if◌then◌else◌, List, [], ◌∷◌, Some, replicate, reverse}
use Rattle.layout.specs.Types.{User}
use Rattle.lms_sign.specs.Secret.{Secret, drawn_from}
use Rattle.client_runs.specs.declared.world.Act.{Act}
use Rattle.client_runs.specs.declared.world.Answer.{Answer}
use Rattle.client_runs.specs.declared.world.Answer.TheVariants as answer
use Rattle.client_runs.specs.declared.world.WorldStep.{WorldStep}
use Rattle.client_steps.specs.Steps.{Call, Client, IsSound, IsStep, Owner}
use Rattle.client_runs.specs.Runs.{Event, IsRun, Keys, client_of, owner}
use Rattle.client_runs.specs.UsedOnce.{CertificatesOnce, LeavesOnce, StructuresOnce}
use Rattle.client_runs.specs.Told.{IsTold, call_of}
use Rattle.client_runs.specs.NotTaken.{CantBeTaken}

-- a user's key of this number in scripts: it is drawn from bytes of the user's number, and of 64 more for each key
-- before it
abbrev pub script_key : User → ℕ → Secret
script_key u n = drawn_from (replicate 32 u) (replicate 16 (u + 64 * n))

-- the keys of scripts: user 0 has one, and every other user may have four
abbrev pub script_keys : Keys
script_keys u = if u == 0 then script_key u 0 ∷ []
    else script_key u 0 ∷ script_key u 1 ∷ script_key u 2 ∷ script_key u 3 ∷ []

-- the event of a step that gave this answer
pub record IsEventOf {A : Type 0} (step : WorldStep A) (answer : Answer A) (e : Event) : Type 0 where
  pub user : e.user ≡ step.user
  pub call : call_of step.act answer ≡ Some e.call
  pub told : IsTold step.act answer e.after

-- These steps gave these answers, and these are their events, the latest first: a step that wasn't taken has none, and
-- couldn't be by its user's client as that was then; and each other one has its own.
abbrev pub Keep : {A : Type 0} → List (WorldStep A) → List (Answer A) → List Event → Type 0
Keep [] [] [] = Unit {0}
Keep (step ∷ steps) (answer.NotTaken ∷ answers) events =
    CantBeTaken (owner script_keys step.user) (client_of step.user events) step.act × Keep steps answers events
Keep (step ∷ steps) (answer ∷ answers) (e ∷ events) = IsEventOf step answer e × Keep steps answers events
Keep steps answers events = ⊥

-- The steps with their answers are a run of clients with these keys; so what its clients release is used once.
pub record AreCarriedOut {A : Type 0} (steps : List (WorldStep A)) (answers : List (Answer A)) : Type 0 where
  pub events : List Event
  pub is_run : IsRun script_keys events
  pub kept : Keep (reverse steps) (reverse answers) events
  pub leaves : (u : User) → LeavesOnce script_keys u events
  pub certificates : (u : User) → CertificatesOnce script_keys u events
  pub structures : (u : User) → StructuresOnce script_keys u events

-- ---- one step

-- a step that was taken
pub record IsTaken {A : Type 0} (o : Owner) (before : Client) (act : Act A) (answer : Answer A)
    (after : Client) : Type 0 where
  pub call : Call
  pub is_call : call_of act answer ≡ Some call
  pub told : IsTold act answer after
  pub step : IsStep o before call after
  pub sound : IsSound after

-- one that wasn't couldn't be, and leaves the client as it was
abbrev pub ComesOf : {A : Type 0} → Owner → Client → Act A → Answer A → Client → Type 0
ComesOf o before act answer.NotTaken after = (after ≡ before) × CantBeTaken o before act
ComesOf o before act answer after = IsTaken o before act answer after
