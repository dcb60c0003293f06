use Rattle.std.proofs.Common.{◌≡◌, ◌+◌, ◌*◌, ◌++◌, take}
use Rattle.lms_sign.specs.Hashing.{joined}
use Rattle.lms_sign.specs.OneTime.{signed_value}
use Rattle.lms_sign.proofs.one_time.put_values.Given as goal

abbrev pub invariant-loop-chain : goal.invariant-loop-chain
invariant-loop-chain l = take (40 + 32 * l.chain) l.signature ≡ take 40 l.fn.signature ++ joined l.chain (signed_value l.seed l.id l.leaf l.digest)
