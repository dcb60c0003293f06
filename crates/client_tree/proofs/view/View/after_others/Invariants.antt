use Rattle.std.proofs.Common.{take}
use Rattle.std.specs.Prelude.{filter}
use Rattle.tree_parts.specs.Asked.{IsReadFrom}
use Rattle.client_tree.specs.View.{comes_after, handle_of}
use Rattle.client_tree.specs.Opened.{HasAskedByItems, IsPartAfter}
use Rattle.client_tree.proofs.view.View.after_others.Given as goal

abbrev pub invariant-loop-item : goal.invariant-loop-item
invariant-loop-item g l = record {
  after : IsPartAfter (g.B.Blocks.held l.blocks) l.scope l.fn.self.table (filter (comes_after l.fn.self l.fn.principal) (take l.item-index l.fn.self.others)) l.fn.principal (handle_of l.fn.self l.fn.principal) l.after;
  read : IsReadFrom (g.B.Blocks.held l.blocks) l.after;
  taken : HasAskedByItems (g.B.Blocks.held l.blocks) l.scope l.fn.self.table (filter (comes_after l.fn.self l.fn.principal) (take l.item-index l.fn.self.others)) l.fn.principal (handle_of l.fn.self l.fn.principal);
}
