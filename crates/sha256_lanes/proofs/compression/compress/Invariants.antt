use Rattle.std.proofs.Common.{◌≡◌, ℕ, ◌*◌, ◌<◌, List, [], ◌∷◌}
use Rattle.sha2.specs.Sha256.{first_words, rounds, schedule}
use Rattle.sha256_lanes.specs.Lanes.{lane}
use Rattle.sha256_lanes.proofs.compression.compress.Given as goal

abbrev pub invariant-rounds : goal.invariant-rounds
invariant-rounds l = (i : ℕ) (b : List ℕ) → i < 8 → lane i l.block ≡ first_words b 16
    → lane i (l.a ∷ l.b ∷ l.c ∷ l.d ∷ l.e ∷ l.f ∷ l.g ∷ l.h ∷ []) ≡ rounds (lane i l.state) (schedule b 48) (4 * l.turn)
