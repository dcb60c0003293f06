use Rattle.std.proofs.Common.{◌≡◌, ℕ, ◌+◌, ◌*◌, ◌<◌, length, slice_index}
use Rattle.sha2.specs.Sha256.{word_at}
use Rattle.sha256_lanes.specs.Lanes.{part}
use Rattle.sha256_lanes.proofs.loading.words_at.Given as goal

abbrev pub invariant-lanes : goal.invariant-lanes
invariant-lanes l = (length l.words ≡ 8)
    × ((k : ℕ) → k < l.i → slice_index l.words k ≡ word_at (part (l.first + l.stride * k) 64 l.text) (4 * l.place))
