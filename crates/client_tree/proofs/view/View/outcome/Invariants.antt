use Rattle.std.proofs.Common.{◌≡◌, map, take}
use Rattle.std.specs.Prelude.{◌⊎◌}
use Rattle.std.specs.List.{All}
use Rattle.principals.specs.Table.{Table}
use Rattle.update_cert.specs.Reading.{Reading, void_of_read}
use Rattle.tree_parts.specs.Blocks.{Agrees}
use Rattle.client_tree.specs.Lost.{PartVoids}
use Rattle.client_tree.specs.Tree.{IsStored, IsUntouched, Stored}
use Rattle.client_tree.specs.View.{actor_of, tree_before, written}
use Rattle.client_tree.proofs.view.View.outcome.Given as goal

abbrev pub invariant-loop-principal : goal.invariant-loop-principal
invariant-loop-principal g l = record {
  principals : map (λ (s : Stored). s.principal) l.parts.items ≡ take l.principal-index (written l.fn.self);
  stored : All (λ s. IsStored (g.B.Blocks.held l.blocks) l.fn.self s ⊎ IsUntouched l.fn.self s) l.parts.items;
  parts : map (λ (v : PartVoids). v.principal) l.of_parts.items ≡ take l.principal-index (written l.fn.self);
  voids : (reads : Reading) → Agrees (g.B.Blocks.held l.blocks) reads → (users : Table)
      → All (λ v. v.numbers ≡ void_of_read reads (actor_of l.fn.self.table l.fn.self.own) v.principal l.fn.self.own.cert.changes (tree_before reads users l.fn.self)) l.of_parts.items;
}
