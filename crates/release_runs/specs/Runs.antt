-- Runs of what a user's client releases, the latest step first, with failed calls of devices, crashes and restarts.
use Rattle.std.specs.Prelude.{◌≡◌, ◌+◌, List, [], ◌∷◌}
use Rattle.release_runs.specs.Steps.{Call, Client, Closed, Declares, IsSound, IsStep, Open, Owner, first}

-- a step, and the client after it
pub record Event : Type 0 where
  pub call : Call
  pub after : Client

-- the client after these steps
abbrev pub client_of : List Event → Client
client_of [] = first
client_of (e ∷ older) = e.after

-- each is a step of the client as that was then
abbrev pub IsRun : Owner → List Event → Type 0
IsRun o [] = Unit {0}
IsRun o (e ∷ older) = IsStep o (client_of older) e.call e.after × IsSound e.after × IsRun o older

-- a certificate that is declared has the next number
abbrev pub IsInTurn : Client → Call → Type 0
IsInTurn (Closed p) call = Unit {0}
IsInTurn (Open s) (Declares n c answer) = c.number ≡ s.number + 1
IsInTurn (Open s) call = Unit {0}

-- and so has each in the run
abbrev pub AreInTurn : List Event → Type 0
AreInTurn [] = Unit {0}
AreInTurn (e ∷ older) = IsInTurn (client_of older) e.call × AreInTurn older
