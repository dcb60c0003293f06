use Rattle.std.proofs.Common.{sym, subst}
use Rattle.directory.specs.Directory.{directory}
use Rattle.directory.proofs.Linking.{linked_at, fits_linked, changes_linked}
use Rattle.directory.proofs.directory.Directory.link.Goals as goal

pub invariant_of-self-2 : goal.invariant_of-self-2
invariant_of-self-2 g c =
    let old = c.self.inside.entries.items in
    let free = rw c.deref.ensures.value at c.in_ok-place.ensures.room in
    let few = rw c.deref.ensures.value at c.in_ok-place.ensures.few in
    let text = c.in_ok-place.ensures.name.1 in
    let new = linked_at old c.insert.new.self.items c.in_ok-place.place c.in_ok-entry.entry c.args.name.now c.in_ok-place.text.now c.args.target free text c.in_ok-entry.ensures.same c.in_ok-insert.ensures.items in
    subst directory.Fits (sym new) (fits_linked old (record { name = c.args.name.now; target = c.args.target }) c.self.invariant few (rw text at c.in_ok-entry.ensures.bytes) c.in_ok-place.ensures.name.0 c.in_ok-entry.ensures.target)

pub returns-clause-ok : goal.returns-clause-ok
returns-clause-ok g c =
    let free = rw c.deref.ensures.value at c.in_ok-place.ensures.room in
    rw (← c.self.view_is) (linked_at c.self.inside.entries.items c.insert.new.self.items c.in_ok-place.place c.in_ok-entry.entry c.args.name.now c.in_ok-place.text.now c.args.target free c.in_ok-place.ensures.name.1 c.in_ok-entry.ensures.same c.in_ok-insert.ensures.items)

pub returns-clause-change : goal.returns-clause-change
returns-clause-change g c =
    let free = rw c.deref.ensures.value at c.in_ok-place.ensures.room in
    let new = linked_at c.self.inside.entries.items c.insert.new.self.items c.in_ok-place.place c.in_ok-entry.entry c.args.name.now c.in_ok-place.text.now c.args.target free c.in_ok-place.ensures.name.1 c.in_ok-entry.ensures.same c.in_ok-insert.ensures.items in
    rw (← c.self.view_is, new) (changes_linked c.self.inside.entries.items (record { name = c.args.name.now; target = c.args.target }))
