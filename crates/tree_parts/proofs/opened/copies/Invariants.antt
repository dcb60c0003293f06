use Rattle.std.proofs.Common.{◌≡◌, take}
use Rattle.tree_parts.proofs.opened.copies.Given as goal

abbrev pub invariant-loop-open : goal.invariant-loop-open
invariant-loop-open g l = l.copies.items ≡ take l.open-index l.fn.opened
