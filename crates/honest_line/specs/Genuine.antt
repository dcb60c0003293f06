-- In honest runs nothing is forged: what a server shows that keeps its order is what clients sent it.
use Rattle.std.specs.Prelude.{List}
use Rattle.fork_consistency.specs.Premises.{NoForgery}
use Rattle.client_runs.specs.Runs.{Keys}
use Rattle.honest_runs.specs.HonestRuns.{HonestEvent, IsHonestRun, events}

-- no signature is forged, in any honest run
abbrev pub NothingIsForged : Type 0
NothingIsForged = (keys : Keys) (run : List HonestEvent) → IsHonestRun keys run → NoForgery keys (events run)
