use Rattle.std.proofs.Common.{◌≡◌, ℕ, ◌<◌, List, length, slice_index}
use Rattle.sha2.specs.Sha256.{first_words, schedule}
use Rattle.sha256_lanes.specs.Lanes.{lane}
use Rattle.sha256_lanes.proofs.compression.fill.Given as goal

-- the words of each lane are known below a place
abbrev pub Known : List (List ℕ) → List (List ℕ) → ℕ → Type 0
Known block words place =
    (i : ℕ) (b : List ℕ) → i < 8 → lane i block ≡ first_words b 16 → (k : ℕ) → k < place → slice_index (lane i words) k ≡ slice_index (schedule b 48) k

abbrev pub invariant-first : goal.invariant-first
invariant-first l = (length l.words ≡ 64) × Known l.block l.words l.place

abbrev pub invariant-rest : goal.invariant-rest
invariant-rest l = (length l.words ≡ 64) × Known l.block l.words l.place
