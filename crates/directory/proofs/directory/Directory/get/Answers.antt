use Rattle.std.proofs.Common.{◌∙◌, sym, ap, Some}
use Rattle.directory.specs.Directory.{Entry}
use Rattle.directory.proofs.Linking.{target_of-Stands, target_of-IsFree}
use Rattle.directory.proofs.directory.Directory.get.Goals as goal

pub returns-in-Ok : goal.returns-in-Ok
returns-in-Ok g c =
    let stands = rw c.deref.ensures.value at c.in-Ok.ensures in
    let found = target_of-Stands c.self.inside.entries.items c.args.name.now c.in-Ok.place c.index.result.now stands in
    rw (← c.self.view_is) (ap Some (c.target.ensures ∙ ap (λ (e : Entry). e.target) c.index.ensures) ∙ sym found)

pub returns-in-Err : goal.returns-in-Err
returns-in-Err g c =
    let free = rw c.deref.ensures.value at c.in-Err.ensures in
    rw (← c.self.view_is) (sym (target_of-IsFree c.self.inside.entries.items c.args.name.now c.in-Err.field-0 free))
