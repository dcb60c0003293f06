use Rattle.std.proofs.Common.{refl}
use Rattle.client_tree.proofs.OpenedLaws.{all_whole}
use Rattle.tree_parts.specs.declared.applying.Applied.{Applied}
use Rattle.client_tree.proofs.view.View.open.Goals as goal

pub returns-clause-opened : goal.returns-clause-opened
returns-clause-opened g c =
    all_whole (λ (made : Applied _). made.part) (g.B.Blocks.held c.args.blocks.now) c.args.self.now c.args.principal c.open_within.result c.open_within.ensures.after c.open_within.ensures.read c.open_within.ensures.taken

pub returns-clause-voids : goal.returns-clause-voids
returns-clause-voids g c = λ reads agrees users. c.open_within.ensures.voids reads agrees users refl
