use Rattle.std.proofs.Common.{◌≡◌, drop}
use Rattle.commands.specs.Quoting.{has_wide_control}
use Rattle.commands.proofs.quoting.has_wide_control.Given as goal

abbrev pub invariant-loop-byte : goal.invariant-loop-byte
invariant-loop-byte l = has_wide_control 0 l.name ≡ has_wide_control l.before (drop l.byte-index l.name)
