use Rattle.std.proofs.Common.{◌≡◌, drop}
use Rattle.tree_parts.specs.Blocks.{joined}
use Rattle.tree_parts.proofs.Joins.{onto}
use Rattle.tree_parts.proofs.blocks.join.Given as goal

abbrev pub invariant-loop-digest : goal.invariant-loop-digest
invariant-loop-digest g l = onto l.all.items (joined (g.B.Blocks.held l.blocks) (drop l.digest-index l.digests)) ≡ joined (g.B.Blocks.held l.blocks) l.digests
