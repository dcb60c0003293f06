use Rattle.std.proofs.Common.{◌<◌, List, get_or, length, ap, ◌∙◌}
use Rattle.std.specs.List.{slice_set}
use Rattle.principals.specs.declared.table.Row.{Row}
use Rattle.principals.specs.Table.{ended}
use Rattle.principals.proofs.InTurn.{next_is, one_more, all_changed}
use Rattle.principals.proofs.table.end_each.Goals as goal

pub loop-row-preserved : goal.loop-row-preserved
loop-row-preserved c =
    let f = ended c.args.number c.args.group c.args.user in
    let i = c.loop-row.row-index in
    let xs = c.args.rows.now in
    let d = c.row-item.result in
    let inside : i < length xs = c.loop-row-test.true in
    let one = c.ended_row.ensures ∙ ap (λ (rows : List Row). f (get_or rows i d)) c.loop-row.invariant ∙ ap f (next_is f i xs d inside) in
    ap (λ (rows : List Row). slice_set rows i c.ended_row.result) c.loop-row.invariant ∙ one_more f i xs c.ended_row.result d inside one

pub returns : goal.returns
returns c = c.loop-row.invariant ∙ all_changed (ended c.args.number c.args.group c.args.user) c.loop-row.row-index c.args.rows.now c.loop-row-test.false
