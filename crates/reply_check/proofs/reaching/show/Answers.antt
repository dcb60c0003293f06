use Rattle.std.proofs.Common.{◌≡◌, ap, subst, ◌∙◌}
use Rattle.std.specs.Prelude.{IfOk}
use Rattle.layout.specs.Types.{Key}
use Rattle.client_tree.specs.View.{View}
use Rattle.reply_check.specs.Reached.{IsAnswer}
use Rattle.reply_check.specs.FirstBroken.{view_over}
use Rattle.reply_check.proofs.reaching.show.Goals as goal

pub returns : goal.returns
returns g c =
    let lists = c.args.lists.now in
    let over : c.view-view.result ≡ view_over c.args.pinned.now c.args.table.now lists =
    c.view-view.ensures
    ∙ ap (λ (k : Key). record { key = k; table = c.args.table.now; structures = lists.structures; others = lists.others; own = lists.own }) c.as_bytes.ensures.same in
    subst (λ (v : View). IfOk c.show_in.result (λ x. IsAnswer (g.B.Blocks.held c.args.blocks.now) v c.args.question x)) over c.show_in.ensures
