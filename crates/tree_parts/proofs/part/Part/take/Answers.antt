use Rattle.std.proofs.Common.{ap}
use Rattle.tree_parts.specs.Part.{Part}
use Rattle.tree_parts.proofs.OpenedLaws.{is_part_taken, entries_left}
use Rattle.tree_parts.proofs.part.Part.take.Goals as goal

pub invariant_of-self : goal.invariant_of-self
invariant_of-self g c =
    let old : Part = record { before = c.self.inside.before; table = c.self.inside.table; opened = c.self.inside.opened.items } in
    is_part_taken old c.remove-digest.new.self c.take_out.new.opened.items c.args.i_number c.self.invariant c.take_out.ensures c.remove-digest.ensures.digests (ap (λ t. t.principal) c.remove-digest.ensures.left) (ap (λ t. t.unloaded) c.remove-digest.ensures.left)

pub returns-clause-opened : goal.returns-clause-opened
returns-clause-opened g c = λ i.
    let old = c.self.inside.opened.items in
    rw (← c.self.view_is) (entries_left old c.take_out.new.opened.items c.args.i_number i c.self.invariant.ascending c.take_out.ensures)
