-- A row is written after the others.
use Rattle.std.proofs.Common.{None, [], ◌∷◌, refl, ap, sym, subst, take, ◌∙◌}
use Rattle.std.specs.Prelude.{map}
use Rattle.std.specs.List.{All}
use Rattle.std.proofs.lemmas.List.{take_all}
use Rattle.std.proofs.lemmas.List.Elements.{All-nil, All-cons, All-append}
use Rattle.layout.specs.Format.{after_row, rows_onto}
use Rattle.pending_list.specs.Reply.{PendingItem, pending_item, pending_rows}
use Rattle.pending_list.proofs.Rows.{onto_last, seen_more}
use Rattle.consistency_server.specs.State.{Placement}
use Rattle.consistency_server.proofs.reply_text.write_pending.Goals as goal

abbrev item : Placement → PendingItem
item w = w.item

pub loop-placement-init : goal.loop-placement-init
unfolding rows_onto
loop-placement-init g c = (refl, All-nil pending_item.Fits)

pub loop-placement-preserved : goal.loop-placement-preserved
loop-placement-preserved g c =
    let ws = c.args.pending.now in
    let i = c.loop-placement.placement-index in
    let x = c.placement-item.result in
    let before = map item (take i ws) in
    let more = seen_more item ws i x c.loop-placement-test.true c.placement-item.is in (
      c.in_ok-write_row.ensures.ok
          ∙ ap (λ t. pending_item.onto t c.item.result.now) c.loop-placement.invariant.0
          ∙ ap (λ (y : PendingItem). pending_item.onto (rows_onto (after_row pending_rows) None c.args.writer.now before) y) c.item.ensures
          ∙ sym (onto_last None c.args.writer.now before (item x))
          ∙ ap (rows_onto (after_row pending_rows) None c.args.writer.now) (sym more),
      subst (All pending_item.Fits) (sym more)
          (All-append pending_item.Fits before (item x ∷ []) c.loop-placement.invariant.1 (All-cons pending_item.Fits (item x) [] (subst pending_item.Fits c.item.ensures c.in_ok-write_row.ensures.fits) (All-nil pending_item.Fits))),
    )

pub returns-clause-fits : goal.returns-clause-fits
returns-clause-fits g c = subst (All pending_item.Fits) (ap (map item) (take_all c.loop-placement.placement-index c.args.pending.now c.loop-placement-test.false)) c.loop-placement.invariant.1
