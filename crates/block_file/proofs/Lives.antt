-- What is safe stays so.
use Rattle.std.proofs.Common.{List, [], ◌∷◌, ℕ, refl}
use Rattle.leaf_ledger.specs.Device.{History, at_rest, started}
use Rattle.leaf_ledger.specs.Moments.{rests, left_has}
use Rattle.block_file.specs.Blocks.{Keeps}
use Rattle.block_file.specs.Life.{IsSafe, Event, Called, Crashed, IsLife, end_of}

pub blocks_stay : (start : History) (text : List ℕ) → IsSafe start text → (events : List Event) → IsLife start events → IsSafe (end_of start events) text
blocks_stay start text safe [] life = safe
blocks_stay start text safe (Called new ∷ events) life = blocks_stay new text (life.0.keeps text safe).0 events life.1
blocks_stay start text safe (Crashed new left ∷ events) life =
    let kept : Keeps text left = left_has (Keeps text) start new left (life.0.keeps text safe).1 life.1 in
    blocks_stay (started left) text (kept, rests (Keeps text) (at_rest left) left refl kept) events life.2
