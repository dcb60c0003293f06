use Rattle.std.proofs.Common.{◌≡◌, ℕ, ◌*◌, ◌<◌, [], slice_index_or, vec_len}
use Rattle.lms_sign.specs.OneTime.{key_of}
use Rattle.lms_sign.proofs.private_key.drawn_keys.Given as goal

abbrev pub invariant-loop-group : goal.invariant-loop-group
invariant-loop-group g l = record {
  size : vec_len l.keys ≡ 1024;
  keys : (leaf : ℕ) → leaf < 8 * l.group → slice_index_or l.keys.items leaf [] ≡ key_of l.seed l.id leaf;
}
