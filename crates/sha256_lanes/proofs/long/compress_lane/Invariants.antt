use Rattle.std.proofs.Common.{◌≡◌, ℕ, ◌*◌, List, [], ◌∷◌}
use Rattle.sha2.specs.Sha256.{rounds, schedule}
use Rattle.sha256_lanes.specs.Rounds.{IsScheduled}
use Rattle.sha256_lanes.proofs.long.compress_lane.Given as goal

abbrev pub invariant-rounds : goal.invariant-rounds
invariant-rounds l = (b : List ℕ) → IsScheduled l.number l.words b
    → l.a ∷ l.b ∷ l.c ∷ l.d ∷ l.e ∷ l.f ∷ l.g ∷ l.h ∷ [] ≡ rounds l.state (schedule b 48) (8 * l.turn)
