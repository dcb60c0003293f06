use Rattle.std.proofs.Common.{◌≡◌, ℕ, ◌*◌, ◌<◌, [], length, slice_index_or}
use Rattle.lms_sign.specs.Hashing.{part}
use Rattle.lms_sign.proofs.private_key.read_keys.Given as goal

abbrev pub invariant-loop-leaf : goal.invariant-loop-leaf
invariant-loop-leaf l = record {
  size : length l.keys ≡ 1024;
  keys : (leaf : ℕ) → leaf < l.leaf → slice_index_or l.keys leaf [] ≡ part (32 * leaf) 32 l.kept;
}
