use Rattle.tree_parts.proofs.TakenLaws.{AreSized, AreWhole}
use Rattle.tree_parts.proofs.reading.find_blocks.Given as goal

abbrev pub invariant-loop-place : goal.invariant-loop-place
invariant-loop-place g l = record {
  whole : AreWhole (g.B.Blocks.held l.blocks) l.inode l.place;
  sized : AreSized (g.B.Blocks.held l.blocks) l.inode l.place;
}
