use Rattle.std.proofs.Common.{◌≡◌, ◌*◌, [], slice_index_or, take}
use Rattle.lms_sign.specs.Hashing.{joined}
use Rattle.lms_sign.proofs.private_key.put_keys.Given as goal

abbrev pub invariant-loop-leaf : goal.invariant-loop-leaf
invariant-loop-leaf l = take (32 * l.leaf) l.out ≡ joined l.leaf (λ leaf. slice_index_or l.keys leaf [])
