-- The entries so far are those of lesser users.
use Rattle.std.proofs.Common.{arith}
use Rattle.hostile_server.proofs.entries.entries_of.Goals as goal

pub push-requires : goal.push-requires
push-requires g c = record { above = λ k d lt. omega (arith, c.loop-number.invariant k d lt, c.in-Some.ensures) }
