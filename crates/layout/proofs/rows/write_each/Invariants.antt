use Rattle.std.proofs.Common.{◌≡◌, None, take, drop}
use Rattle.layout.specs.Format.{BeginsWith, after_row, rows_onto}
use Rattle.layout.proofs.RowLoop.{last_of}
use Rattle.layout.proofs.rows.write_each.Given as goal

abbrev pub invariant-loop-item : goal.invariant-loop-item
invariant-loop-item g l =
    let row = g.F.RowFormat.format l.format in
    (rows_onto (after_row row) (last_of (take l.item-index l.items)) l.writer (drop l.item-index l.items) ≡ rows_onto (after_row row) None l.fn.writer l.items)
    × BeginsWith l.writer l.fn.writer
