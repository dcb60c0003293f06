use Rattle.std.proofs.Common.{◌∙◌, Some, sym, ap}
use Rattle.client_tree.specs.Held.{Block}
use Rattle.client_tree.proofs.HeldLaws.{held-Stands, held-IsFree, hashed}
use Rattle.client_tree.proofs.held.HeldBlocks.get.Goals as goal

pub returns-in-Ok-clause-text : goal.returns-in-Ok-clause-text
returns-in-Ok-clause-text g c =
    let stands = rw c.deref.ensures.value at c.in-Ok.ensures in
    let found = held-Stands c.self.inside.blocks.items c.args.digest c.in-Ok.place c.index.result.now stands in
    rw (← c.self.view_is) (ap Some (c.text.ensures ∙ ap (λ (b : Block). b.text) c.index.ensures) ∙ sym found)

pub returns-in-Ok-clause-hashed : goal.returns-in-Ok-clause-hashed
returns-in-Ok-clause-hashed g c = rw (← c.self.view_is) (hashed c.self.inside.blocks.items c.args.digest c.self.invariant)

pub returns-in-Err-clause-text : goal.returns-in-Err-clause-text
returns-in-Err-clause-text g c =
    let free = rw c.deref.ensures.value at c.in-Err.ensures in
    rw (← c.self.view_is) (sym (held-IsFree c.self.inside.blocks.items c.args.digest c.in-Err.field-0 free))

pub returns-in-Err-clause-hashed : goal.returns-in-Err-clause-hashed
returns-in-Err-clause-hashed g c = rw (← c.self.view_is) (hashed c.self.inside.blocks.items c.args.digest c.self.invariant)
