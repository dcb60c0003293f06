use Rattle.std.proofs.Common.{refl, ◌∙◌}
use Rattle.tree_parts.specs.Part.{Part}
use Rattle.tree_parts.proofs.OpenedLaws.{is_part_with}
use Rattle.tree_parts.proofs.ActLaws.{slot_with}
use Rattle.tree_parts.proofs.part.Part.open_at.Goals as goal

pub invariant_of-self-2 : goal.invariant_of-self-2
invariant_of-self-2 g c =
    let old : Part = record { before = c.self.inside.before; table = c.self.inside.table; opened = c.self.inside.opened.items } in
    let free = rw (← c.self.view_is) at c.requires.free in
    let mapped = rw (← c.self.view_is) at c.requires.mapped in
    is_part_with old c.insert.new.self.items c.args.directory c.self.invariant mapped (c.in_ok-insert.ensures.items ∙ free.inserts c.args.directory refl)

pub returns-clause-slots : goal.returns-clause-slots
returns-clause-slots g c = λ i.
    let old : Part = record { before = c.self.inside.before; table = c.self.inside.table; opened = c.self.inside.opened.items } in
    let free = rw (← c.self.view_is) at c.requires.free in
    let mapped = rw (← c.self.view_is) at c.requires.mapped in
    rw (← c.self.view_is) (slot_with old c.insert.new.self.items c.args.directory i mapped (c.in_ok-insert.ensures.items ∙ free.inserts c.args.directory refl))
