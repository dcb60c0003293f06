use Rattle.std.proofs.Common.{◌≡◌, ℕ, ◌<◌, [], length, slice_index, slice_index_or}
use Rattle.sha256_lanes.proofs.values.row.Given as goal

abbrev pub invariant-lanes : goal.invariant-lanes
invariant-lanes l = (length l.words ≡ 8)
    × ((i : ℕ) → i < l.i → slice_index l.words i ≡ slice_index (slice_index_or l.values i []) l.place)
