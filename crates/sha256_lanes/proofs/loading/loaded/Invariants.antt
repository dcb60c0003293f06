use Rattle.std.proofs.Common.{◌≡◌, ℕ, ◌+◌, ◌*◌, ◌<◌, length, slice_index}
use Rattle.sha2.specs.Sha256.{word_at}
use Rattle.sha256_lanes.specs.Lanes.{lane, part}
use Rattle.sha256_lanes.proofs.loading.loaded.Given as goal

abbrev pub invariant-places : goal.invariant-places
invariant-places l = (length l.block ≡ 16) × ((i : ℕ) → i < 8 → (k : ℕ) → k < l.place
    → slice_index (lane i l.block) k ≡ word_at (part (l.first + l.stride * i) 64 l.text) (4 * k))
