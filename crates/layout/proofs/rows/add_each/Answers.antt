use Rattle.std.proofs.Common.{arith}
use Rattle.std.proofs.lemmas.Result.{err_from_is_err_and}
use Rattle.layout.specs.Format.{read_state}
use Rattle.layout.proofs.RowLoop.{moves_on, state_stops, state_is}
use Rattle.layout.proofs.rows.add_each.Goals as goal

pub returns-in_err-row : goal.returns-in_err-row
returns-in_err-row g c =
    let rows = g.S.RowState.format in
    let p = err_from_is_err_and c.from_residual.result c.from_residual.ensures.1 in
    rw (p.1, p.2) (state_stops c.in_err-row.field-0.0 rows c.args.count c.loop.counter c.loop.state c.loop.reader (read_state rows c.args.count c.args.state.now c.args.reader.now) c.loop-test.true c.in_err-row.ensures c.loop.invariant.0)

pub loop-preserved : goal.loop-preserved
loop-preserved g c =
    let rows = g.S.RowState.format in (
      moves_on rows c.args.count c.loop.counter c.loop.state c.add.new.self c.loop.reader c.read_fields.new.reader c.in_ok-row.row (read_state rows c.args.count c.args.state.now c.args.reader.now) c.loop-test.true c.in_ok-row.ensures c.in_ok-add.ensures.moved c.loop.invariant.0,
      omega (arith, c.loop-test.true, c.in_ok-add.ensures.room, c.loop.invariant.1),
    )

pub returns : goal.returns
returns g c =
    let rows = g.S.RowState.format in
    state_is rows c.args.count c.loop.counter c.loop.state c.loop.reader (read_state rows c.args.count c.args.state.now c.args.reader.now) c.loop-test.false c.loop.invariant.0
