use Rattle.std.proofs.Common.{ℕ, ◌≡◌, length}
use Rattle.honest_runs.specs.Town.{nothing, wanted_at}
use Rattle.honest_runs.proofs.wanted.nothing_wanted.Given as goal

abbrev pub invariant-loop : goal.invariant-loop
invariant-loop g l = record {
  size : length l.wanted.items ≡ l.counter;
  none : (u : ℕ) → wanted_at l.wanted.items u ≡ nothing;
}
