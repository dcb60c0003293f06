use Rattle.std.proofs.Common.{◌≡◌, List, [], ◌∷◌, refl, sym, ap, ◌∙◌}
use Rattle.std.specs.Ordering.{nat_cmp}
use Rattle.layout.specs.Ascending.{with_row}
use Rattle.principals.specs.declared.table.Row.{Row}
use Rattle.principals.specs.Table.{Listing, Table, user_of}
use Rattle.principals.proofs.FitLaws.{user_fits}
use Rattle.principals.proofs.Users.{each_new, fits_added, have_text, first_stays}
use Rattle.principals.proofs.table.Table.add_user.Goals as goal

abbrev made : List Listing → List Row → Table
made users rows = record { users = users; rows = rows }

pub invariant_of-self-2 : goal.invariant_of-self-2
invariant_of-self-2 g c =
    let l : Listing = record { user = c.args.user; since = c.args.number; key = c.args.key; later = [] } in
    let free = rw c.deref.ensures.value at c.in_ok-place.ensures.room in
    let new : c.insert.new.self.items ≡ with_row nat_cmp user_of c.self.inside.others.items l = (rw (c.get-since.ensures.same, c.new-later.ensures.items) at c.in_ok-insert.ensures.items) ∙ free.inserts l refl in
    rw new (record {
      listed = fits_added c.self.inside.superuser c.self.inside.others.items l c.self.invariant.listed (each_new _ _ _ c.get-user.ensures.fits c.get-since.ensures.fits c.key_invariant.ensures) c.in_ok-place.ensures.other;
      few = c.self.invariant.few;
      marked = c.self.invariant.marked;
    })

pub returns-clause-ok : goal.returns-clause-ok
returns-clause-ok g c =
    let l : Listing = record { user = c.args.user; since = c.args.number; key = c.args.key; later = [] } in
    let free = rw c.deref.ensures.value at c.in_ok-place.ensures.room in
    let new : c.insert.new.self.items ≡ with_row nat_cmp user_of c.self.inside.others.items l = (rw (c.get-since.ensures.same, c.new-later.ensures.items) at c.in_ok-insert.ensures.items) ∙ free.inserts l refl in
    let first = first_stays c.self.inside.superuser c.self.inside.others.items l c.self.invariant.listed c.in_ok-place.ensures.other in
    rw (← c.self.view_is) (ap (λ (us : List Listing). made us c.self.inside.rows.items) (ap (λ (os : List Listing). c.self.inside.superuser ∷ os) new ∙ sym first))

pub returns-clause-fits : goal.returns-clause-fits
returns-clause-fits g c =
    let s = c.self.inside.superuser in
    let os = c.self.inside.others.items in
    let l : Listing = record { user = c.args.user; since = c.args.number; key = c.args.key; later = [] } in
    let free = rw c.deref.ensures.value at c.in_ok-place.ensures.room in
    let new : c.insert.new.self.items ≡ with_row nat_cmp user_of os l = (rw (c.get-since.ensures.same, c.new-later.ensures.items) at c.in_ok-insert.ensures.items) ∙ free.inserts l refl in
    let listed = fits_added s os l c.self.invariant.listed (each_new _ _ _ c.get-user.ensures.fits c.get-since.ensures.fits c.key_invariant.ensures) c.in_ok-place.ensures.other in
    rw (← c.self.view_is, new) (λ fits. user_fits s os c.self.inside.rows.items l fits (have_text _ listed))
