use Rattle.std.proofs.Common.{None, arith}
use Rattle.layout.specs.Fronts.{begins_then}
use Rattle.principals.proofs.Parts.{several_written, begins_append, on_ok}
use Rattle.principals.proofs.reading.write_several.Goals as goal

pub returns-clause-ok : goal.returns-clause-ok
returns-clause-ok g c =
    on_ok c.write_rows.result _ _
    (λ e. several_written c.args.writer.now c.u8.new.self c.write_row.new.writer c.write_rows.new.writer c.args.superuser.now c.args.others.now _ c.in_ok-u8.ensures.ok (omega (arith, c.requires)) (c.in_ok-write_row.ensures.ok None) e)
    c.write_rows.ensures.ok

pub returns-clause-front : goal.returns-clause-front
returns-clause-front g c =
    let count = begins_append c.u8.new.self c.args.writer.now _ c.in_ok-u8.ensures.ok in
    begins_then c.write_rows.new.writer _ _ c.write_rows.ensures.front (begins_then c.write_row.new.writer _ _ c.write_row.ensures.front count)
