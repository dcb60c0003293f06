use Rattle.std.proofs.Common.{Bool, sym, ap, ◌∙◌}
use Rattle.std.specs.Prelude.{◌||◌}
use Rattle.client_tree.specs.Opened.{has_change}
use Rattle.client_tree.proofs.OpenedLaws.{touched_by}
use Rattle.client_tree.proofs.view.View.is_touched.Goals as goal

pub returns-then-others_touch : goal.returns-then-others_touch
returns-then-others_touch g c =
    let x = c.args.self.now in
    let p = c.args.principal in
    c.if-others_touch.true ∙ sym (touched_by x c.args.scope.now p ∙ ap (λ (t : Bool). t || has_change c.args.scope.now p x.own) (sym c.others_touch.ensures ∙ c.if-others_touch.true))

pub returns-else-others_touch : goal.returns-else-others_touch
returns-else-others_touch g c =
    let x = c.args.self.now in
    let p = c.args.principal in
    c.has_change.ensures ∙ ap (has_change c.args.scope.now p) c.own.ensures ∙ sym (touched_by x c.args.scope.now p ∙ ap (λ (t : Bool). t || has_change c.args.scope.now p x.own) (sym c.others_touch.ensures ∙ c.if-others_touch.false))
