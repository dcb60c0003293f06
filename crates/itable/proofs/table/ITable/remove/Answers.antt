use Rattle.itable.specs.ITable.{ITable}
use Rattle.itable.proofs.KnownLaws.{keeps_removed}
use Rattle.itable.proofs.TableLaws.{digests_removed}
use Rattle.itable.proofs.table.ITable.remove.Goals as goal

pub invariant_of-self : goal.invariant_of-self
invariant_of-self g c =
    let t : ITable = record { principal = c.self.inside.principal; pairs = c.self.inside.pairs.items; unloaded = c.self.inside.unloaded.items } in
    rw c.forget.ensures (keeps_removed t c.self.inside.known.items c.args.i_number c.take_out.new.pairs.items c.self.invariant c.take_out.ensures.left)

pub returns-clause-digests : goal.returns-clause-digests
returns-clause-digests g c =
    let t : ITable = record { principal = c.self.inside.principal; pairs = c.self.inside.pairs.items; unloaded = c.self.inside.unloaded.items } in
    rw (← c.self.view_is) (digests_removed t c.args.i_number c.take_out.new.pairs.items c.self.invariant.is_table c.take_out.ensures.left)
