-- Steps and their answers leave no choice of what premises say of their events.
use Rattle.std.specs.Prelude.{◌≡◌, List}
use Rattle.std.specs.List.{AllZip}
use Rattle.client_runs.specs.Carried.{Keep}
use Rattle.client_runs.specs.Released.{released_by}
use Rattle.client_runs.specs.Runs.{Event, IsRun, Keys}
use Rattle.client_runs.specs.declared.world.Answer.{Answer}
use Rattle.client_runs.specs.declared.world.WorldStep.{WorldStep}

-- Both events are of one user, are one call, and release the same texts. What a call shows and hashes is its own.
pub record IsSameEvent (d e : Event) : Type 0 where
  pub user : d.user ≡ e.user
  pub call : d.call ≡ e.call
  pub released : released_by d.call d.after ≡ released_by e.call e.after

-- any events that these steps and answers keep are the same so, one by one
abbrev pub AreTold : {A : Type 0} → Keys → List (WorldStep A) → List (Answer A) → List Event → Type 0
AreTold keys steps answers events =
    (others : List Event) → IsRun keys others → Keep steps answers others → AllZip IsSameEvent events others
