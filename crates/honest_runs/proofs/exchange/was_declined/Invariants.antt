use Rattle.std.proofs.Common.{◌≡◌, take}
use Rattle.std.specs.Prelude.{reverse}
use Rattle.honest_runs.specs.Town.{is_declined}
use Rattle.honest_runs.proofs.exchange.was_declined.Given as goal

abbrev pub invariant-loop-exchange : goal.invariant-loop-exchange
invariant-loop-exchange g l = l.declined ≡ is_declined l.text (reverse (take l.exchange-index l.exchanges))
