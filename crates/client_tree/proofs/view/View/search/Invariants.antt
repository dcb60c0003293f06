use Rattle.std.proofs.Common.{◌≡◌, ◌≤◌, ◌<◌, ℕ, [], false}
use Rattle.update_cert.specs.World.{is_table}
use Rattle.tree_parts.specs.Asked.{IsReadFrom}
use Rattle.tree_parts.specs.declared.scope.Scope.{Scope}
use Rattle.client_tree.specs.View.{handle_of}
use Rattle.client_tree.specs.Opened.{HasOpeningAt, IsPartAfter}
use Rattle.client_tree.specs.Questions.{AreMapped}
use Rattle.client_tree.proofs.view.View.search.Given as goal

abbrev pub invariant-loop-number : goal.invariant-loop-number
invariant-loop-number g l = record {
  part : (scope : Scope) → IsPartAfter (g.B.Blocks.held l.blocks) scope l.fn.self.table [] l.fn.principal (handle_of l.fn.self l.fn.principal) l.part;
  read : IsReadFrom (g.B.Blocks.held l.blocks) l.part;
  from : l.fn.first ≤ l.number;
  searched : (j : ℕ) → l.fn.first ≤ j → j < l.number → is_table l.fn.principal j ≡ false → HasOpeningAt (g.B.Blocks.held l.blocks) l.fn.self l.fn.principal j;
  mapped : AreMapped (g.B.Blocks.held l.blocks) l.fn.self l.fn.principal l.fn.first l.number;
}
