-- Nobody has to believe this file: an aid of private contracts.
use Rattle.std.specs.Prelude.{◌≡◌, ℕ, ◌<◌, List, slice_index}
use Rattle.sha2.specs.Sha256.{schedule}
use Rattle.sha256_lanes.specs.Lanes.{lane}

-- the words of a lane are those of the schedule of a block
abbrev pub IsScheduled : ℕ → List (List ℕ) → List ℕ → Type 0
IsScheduled i words b = (k : ℕ) → k < 64 → slice_index (lane i words) k ≡ slice_index (schedule b 48) k
