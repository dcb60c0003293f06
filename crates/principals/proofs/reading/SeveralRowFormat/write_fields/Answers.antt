use Rattle.std.proofs.Common.{arith}
use Rattle.layout.specs.Fronts.{begins_then}
use Rattle.principals.specs.Table.{Listing}
use Rattle.principals.specs.TableText.{may_have}
use Rattle.principals.proofs.Parts.{listing_written, begins_append, on_ok}
use Rattle.principals.proofs.reading.SeveralRowFormat.write_fields.Goals as goal

pub returns-clause-ok : goal.returns-clause-ok
returns-clause-ok g c = λ before.
    let l : Listing = record { user = c.row.inside.user; since = c.row.inside.since; key = c.row.inside.key; later = c.row.inside.later.items } in
    rw (← c.row.view_is) (on_ok c.write_rows.result _ _
    (λ e. listing_written before (may_have before) c.args.writer.now c.user.new.self c.u8.new.self c.u32.new.self c.bytes.new.self c.write_rows.new.writer l _ c.in_ok-user.ensures.ok c.in_ok-u8.ensures.ok (omega (arith, c.len.ensures)) c.in_ok-u32.ensures.ok (rw c.as_bytes.ensures.same at c.in_ok-bytes.ensures.ok) (rw (← c.deref.ensures.value) e))
    c.write_rows.ensures.ok)

pub returns-clause-front : goal.returns-clause-front
returns-clause-front g c =
    let one = begins_append c.user.new.self c.args.writer.now _ c.in_ok-user.ensures.ok in
    let two = begins_then c.u8.new.self _ _ (begins_append c.u8.new.self c.user.new.self _ c.in_ok-u8.ensures.ok) one in
    let three = begins_then c.u32.new.self _ _ (begins_append c.u32.new.self c.u8.new.self _ c.in_ok-u32.ensures.ok) two in
    let four = begins_then c.bytes.new.self _ _ (begins_append c.bytes.new.self c.u32.new.self _ c.in_ok-bytes.ensures.ok) three in
    begins_then c.write_rows.new.writer _ _ c.write_rows.ensures.front four
