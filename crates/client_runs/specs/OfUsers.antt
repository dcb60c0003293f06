-- A run as steps of each user's client: which are the steps of one client, and that such steps in any order are a run.
use Rattle.std.specs.Prelude.{List, [], ◌∷◌, ◌++◌, ◌==◌, if◌then◌else◌}
use Rattle.layout.specs.Types.{User}
use Rattle.client_steps.specs.Steps.{AreSteps, StepTaken, first}
use Rattle.client_runs.specs.Runs.{Event, IsRun, Keys, client_of, owner}

-- the step of an event
abbrev pub step_in : Event → StepTaken
step_in e = record { call = e.call; after = e.after }

-- the steps of a user's client in a run, the first first
abbrev pub steps_of : User → List Event → List StepTaken
steps_of u [] = []
steps_of u (e ∷ older) = if e.user == u then steps_of u older ++ step_in e ∷ [] else steps_of u older

-- the steps of each user's client lead it from the beginning to what it is after the run
abbrev pub AreStepsOfEach : Keys → List Event → Type 0
AreStepsOfEach keys run = (u : User) → AreSteps (owner keys u) first (steps_of u run) (client_of u run)

-- steps of each user's client, in any order, are a run
abbrev pub StepsAreRuns : Type 0
StepsAreRuns = (keys : Keys) (run : List Event) → AreStepsOfEach keys run → IsRun keys run

-- and each run is steps of each user's client
abbrev pub RunsAreSteps : Type 0
RunsAreSteps = (keys : Keys) (run : List Event) → IsRun keys run → AreStepsOfEach keys run
