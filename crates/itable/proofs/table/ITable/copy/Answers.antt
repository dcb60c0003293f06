use Rattle.std.proofs.Common.{◌∙◌}
use Rattle.itable.proofs.table.ITable.copy.Goals as goal

pub invariant_of-result : goal.invariant_of-result
invariant_of-result g c =
    let pairs = c.in_ok-from_slice.ensures.items ∙ c.deref.ensures.value in
    let known = c.in_ok-from_slice-2.ensures.items ∙ c.deref-2.ensures.value in
    let unloaded = c.in_ok-from_slice-3.ensures.items ∙ c.deref-3.ensures.value in
    rw (pairs, unloaded, known) c.self.invariant
