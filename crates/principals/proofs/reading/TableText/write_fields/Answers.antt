use Rattle.std.proofs.Common.{◌∷◌, arith}
use Rattle.layout.specs.Fronts.{begins_then}
use Rattle.principals.proofs.Parts.{spelled, begins_append, on_ok, on_err}
use Rattle.principals.proofs.Users.{few_users}
use Rattle.principals.proofs.reading.TableText.write_fields.Goals as goal

pub write_users-requires : goal.write_users-requires
write_users-requires g c =
    rw c.deref.ensures.value (omega (arith, few_users c.self.inside.superuser c.self.inside.others.items c.self.invariant.listed))

pub returns-clause-ok : goal.returns-clause-ok
returns-clause-ok g c =
    let s = c.self.inside.superuser in
    let os = c.self.inside.others.items in
    let rows = c.self.inside.rows.items in
    rw (← c.self.view_is) (on_ok c.write_rows.result _ _
    (λ e. spelled c.args.writer.now c.write_users.new.writer c.u16.new.self c.write_rows.new.writer (s ∷ os) rows _ (rw (← c.deref.ensures.value) c.in_ok-write_users.ensures.ok) c.in_ok-u16.ensures.ok (omega (arith, c.len.ensures, c.self.inside.rows.ok)) (rw (← c.deref-2.ensures.value) e))
    c.write_rows.ensures.ok)

pub returns-clause-front : goal.returns-clause-front
returns-clause-front g c =
    let count = begins_then c.u16.new.self _ _ (begins_append c.u16.new.self c.write_users.new.writer _ c.in_ok-u16.ensures.ok) c.write_users.ensures.front in
    on_err _ _ (begins_then c.write_rows.new.writer _ _ c.write_rows.ensures.front count)
