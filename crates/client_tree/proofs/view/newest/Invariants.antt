use Rattle.std.proofs.Common.{◌≡◌, ◌≤◌, drop, length}
use Rattle.client_tree.specs.View.{newest}
use Rattle.client_tree.proofs.view.newest.Given as goal

abbrev pub decreases-loop-left : goal.decreases-loop-left
decreases-loop-left g l = l.left

abbrev pub invariant-loop-left : goal.invariant-loop-left
invariant-loop-left g l = (l.left ≤ length l.fn.structures) × (l.best ≡ newest l.fn.group (drop l.left l.fn.structures))
