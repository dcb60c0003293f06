-- A row is written after the others.
use Rattle.std.proofs.Common.{refl, sym, ap, ◌∙◌, take, None}
use Rattle.std.specs.Prelude.{map}
use Rattle.layout.specs.Format.{after_row, rows_onto}
use Rattle.pending_list.specs.Reply.{pending_item, pending_rows}
use Rattle.pending_list.proofs.Rows.{onto_last, seen_more}
use Rattle.pending_list.proofs.reply.write_others.Goals as goal

pub loop-other-init : goal.loop-other-init
unfolding rows_onto
loop-other-init g c = refl

pub loop-other-preserved : goal.loop-other-preserved
loop-other-preserved g c =
    let item = g.H.HasItem.item in
    let before = map item (take c.loop-other.other-index c.args.others.now) in
    c.in_ok-write_row.ensures.ok None
    ∙ ap (λ t. pending_item.onto t c.item.result.now) c.loop-other.invariant
    ∙ ap (λ x. pending_item.onto (rows_onto (after_row pending_rows) None c.args.writer.now before) x) c.item.ensures
    ∙ sym (onto_last None c.args.writer.now before (item c.other-item.result))
    ∙ ap (rows_onto (after_row pending_rows) None c.args.writer.now) (sym (seen_more item c.args.others.now c.loop-other.other-index c.other-item.result c.loop-other-test.true c.other-item.is))
