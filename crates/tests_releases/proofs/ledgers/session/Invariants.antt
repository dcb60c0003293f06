use Rattle.std.proofs.Common.{◌≡◌}
use Rattle.tests_releases.proofs.ledgers.session.Given as goal

abbrev pub invariant-loop : goal.invariant-loop
invariant-loop l = l.ledger.outstanding ≡ 0
