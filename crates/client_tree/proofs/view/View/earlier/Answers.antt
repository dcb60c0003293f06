use Rattle.client_tree.specs.Opened.{IsOpening}
use Rattle.tree_parts.specs.Asked.{Lacks}
use Rattle.client_tree.proofs.OpenedLaws.{handed_on, of_root}
use Rattle.client_tree.proofs.view.View.earlier.Goals as goal

pub returns-in_err-part-clause-missing : goal.returns-in_err-part-clause-missing
returns-in_err-part-clause-missing g c =
    let held = g.B.Blocks.held c.args.blocks.now in
    let x = c.args.self.now in
    let p = c.args.principal in
    let e = c.in_err-part.field-0.0 in
    handed_on c.from_residual.result e (Lacks held (IsOpening held x c.args.scope.now p)) c.from_residual.ensures.1 (of_root held x c.args.scope.now p e c.in_err-part.ensures.missing)

pub after_others-requires-clause-first : goal.after_others-requires-clause-first
after_others-requires-clause-first g c = c.in_ok-part.ensures.after c.args.scope.now
