use Rattle.std.proofs.Common.{◌≡◌, ℕ, ◌+◌, ◌*◌, ◌<◌, [], length, slice_index_or}
use Rattle.lms_sign.proofs.private_key.put_group.Given as goal

abbrev pub invariant-loop-place : goal.invariant-loop-place
invariant-loop-place l = record {
  size : length l.keys ≡ 1024;
  group : (i : ℕ) → i < l.place → slice_index_or l.keys (8 * l.group + i) [] ≡ slice_index_or l.values i [];
  before : (leaf : ℕ) → leaf < 8 * l.group → slice_index_or l.keys leaf [] ≡ slice_index_or l.initial.keys leaf [];
}
