use Rattle.std.proofs.Common.{None, take, rules}
use Rattle.layout.specs.Format.{after_row, rows_onto}
use Rattle.layout.specs.Fronts.{begins_then}
use Rattle.layout.proofs.RowLoop.{writes_on, has_written, last_of}
use Rattle.layout.proofs.rows.write_each.Goals as goal

pub loop-item-preserved : goal.loop-item-preserved
loop-item-preserved g c =
    let row = g.F.RowFormat.format c.args.format.now in (
      writes_on row c.args.items.now c.loop-item.item-index c.item-item.result c.loop-item.writer c.write_row.new.writer (rows_onto (after_row row) None c.args.writer.now c.args.items.now) c.loop-item-test.true c.item-item.is c.in_ok-write_row.ensures.ok c.loop-item.invariant.0,
      begins_then c.write_row.new.writer c.loop-item.writer c.args.writer.now c.write_row.ensures.front c.loop-item.invariant.1,
    )

pub returns-in_err-write_row : goal.returns-in_err-write_row
returns-in_err-write_row g c = record {
  ok = search rules;
  front = begins_then c.write_row.new.writer c.loop-item.writer c.args.writer.now c.write_row.ensures.front c.loop-item.invariant.1;
}

pub returns : goal.returns
returns g c =
    let row = g.F.RowFormat.format c.args.format.now in
    record {
      ok = has_written row c.args.items.now c.loop-item.item-index (last_of (take c.loop-item.item-index c.args.items.now)) c.loop-item.writer (rows_onto (after_row row) None c.args.writer.now c.args.items.now) c.loop-item-test.false c.loop-item.invariant.0;
      front = c.loop-item.invariant.1;
    }
