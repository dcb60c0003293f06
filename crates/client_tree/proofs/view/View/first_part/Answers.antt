use Rattle.std.proofs.Common.{subst}
use Rattle.std.specs.Prelude.{IfErr}
use Rattle.layout.specs.Types.{Handle}
use Rattle.tree_parts.specs.Asked.{IsRoot, Lacks}
use Rattle.client_tree.specs.View.{handle_of}
use Rattle.client_tree.proofs.OpenedLaws.{first_items}
use Rattle.client_tree.proofs.view.View.first_part.Goals as goal

pub returns-clause-after : goal.returns-clause-after
returns-clause-after g c = λ scope.
    first_items (g.B.Blocks.held c.args.blocks.now) scope c.args.self.now.table c.args.principal c.in_ok-handle.handle (handle_of c.args.self.now c.args.principal) c.open.result c.in_ok-handle.ensures c.open.ensures.principal c.open.ensures.handle c.open.ensures.slots

pub returns-clause-missing : goal.returns-clause-missing
returns-clause-missing g c =
    let held = g.B.Blocks.held c.args.blocks.now in
    subst (λ (h : Handle). IfErr c.open.result (Lacks held (IsRoot c.args.principal h))) c.in_ok-handle.ensures c.open.ensures.missing
