use Rattle.std.proofs.Common.{◌≡◌, ℕ, ◌<◌, get_or}
use Rattle.leaf_ledger.specs.Device.{IsOutside}
use Rattle.leaf_ledger.proofs.recording.may_be_left.Given as goal

abbrev pub invariant-loop-i : goal.invariant-loop-i
invariant-loop-i l = (k : ℕ) → k < l.i → IsOutside l.unsynced k → get_or l.left k 0 ≡ get_or l.synced_text k 0
