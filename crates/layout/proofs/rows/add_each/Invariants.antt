use Rattle.std.proofs.Common.{◌≡◌, ◌-◌, ◌≤◌}
use Rattle.layout.specs.Format.{read_state}
use Rattle.layout.proofs.rows.add_each.Given as goal

abbrev pub invariant-loop : goal.invariant-loop
invariant-loop g l =
    let rows = g.S.RowState.format in
    (read_state rows (l.count - l.counter) l.state l.reader ≡ read_state rows l.count l.fn.state l.fn.reader)
    × (l.count - l.counter ≤ g.S.RowState.room l.state)
