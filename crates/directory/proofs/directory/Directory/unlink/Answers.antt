use Rattle.std.proofs.Common.{sym, subst, refl}
use Rattle.directory.specs.Directory.{directory}
use Rattle.directory.proofs.Linking.{target_of-Stands, target_of-IsFree, unlinked_at, fits_unlinked, changes_unlinked}
use Rattle.directory.proofs.directory.Directory.unlink.Goals as goal

pub returns-in_default-clause-absent : goal.returns-in_default-clause-absent
returns-in_default-clause-absent g c =
    let free = rw c.deref.ensures.value at c.in_default.ensures in
    let none = target_of-IsFree c.self.inside.entries.items c.args.name.now c.in_default.field-0 free in
    rw (← c.self.view_is) (λ e. none, λ e. refl)

pub invariant_of-self : goal.invariant_of-self
invariant_of-self g c =
    let old = c.self.inside.entries.items in
    let stands = rw c.deref.ensures.value at c.in-Ok.ensures in
    let new = unlinked_at old c.remove-entry.new.self.items c.args.name.now c.in-Ok.place stands c.remove-entry.ensures.items in
    subst directory.Fits (sym new) (fits_unlinked old c.args.name.now c.self.invariant)

pub returns-clause-ok : goal.returns-clause-ok
returns-clause-ok g c =
    let stands = rw c.deref.ensures.value at c.in-Ok.ensures in
    rw (← c.self.view_is) (unlinked_at c.self.inside.entries.items c.remove-entry.new.self.items c.args.name.now c.in-Ok.place stands c.remove-entry.ensures.items)

pub returns-clause-change : goal.returns-clause-change
returns-clause-change g c =
    let old = c.self.inside.entries.items in
    let stands = rw c.deref.ensures.value at c.in-Ok.ensures in
    let new = unlinked_at old c.remove-entry.new.self.items c.args.name.now c.in-Ok.place stands c.remove-entry.ensures.items in
    rw (← c.self.view_is, new) (changes_unlinked old c.args.name.now c.self.invariant)

pub returns-clause-absent : goal.returns-clause-absent
returns-clause-absent g c =
    let stands = rw c.deref.ensures.value at c.in-Ok.ensures in
    let some = target_of-Stands c.self.inside.entries.items c.args.name.now c.in-Ok.place c.remove-entry.result stands in
    rw (← c.self.view_is) (λ e. absurd cc, λ none. absurd cc)
