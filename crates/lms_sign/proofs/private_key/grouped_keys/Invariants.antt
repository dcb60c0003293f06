use Rattle.std.proofs.Common.{◌≡◌, ℕ, ◌+◌, ◌*◌, ◌<◌, [], slice_index_or, vec_len}
use Rattle.lms_sign.proofs.private_key.grouped_keys.Given as goal

abbrev pub invariant-loop-group : goal.invariant-loop-group
invariant-loop-group g l = record {
  size : vec_len l.keys ≡ 1024;
  keys : (group i : ℕ) → group < l.group → i < 8
      → slice_index_or l.keys.items (8 * group + i) [] ≡ slice_index_or (slice_index_or l.groups group []) i [];
}
