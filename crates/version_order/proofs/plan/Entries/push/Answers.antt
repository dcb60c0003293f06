-- An entry of a user above the others fits after them.
use Rattle.std.proofs.Common.{◌≡◌, ◌<◌, ◌++◌, [], ◌∷◌, List, Result, Ok, Err, true, Option, Some, None, refl, sym, subst, arith}
use Rattle.std.specs.Prelude.{is_ok, if◌then◌else◌}
use Rattle.std.specs.Int.{w8}
use Rattle.std.specs.List.{All}
use Rattle.std.specs.Ordering.{nat_cmp}
use Rattle.std.proofs.lemmas.List.Elements.{All-head, All-tail}
use Rattle.layout.specs.Format.{FitRows, after_row, raw}
use Rattle.layout.specs.Laws.{listed_fits}
use Rattle.layout.specs.Sizes.{few_rows}
use Rattle.layout.specs.Ranges.{user, version}
use Rattle.layout.specs.Ascending.{above}
use Rattle.layout.specs.AscendingKeys.{less_from_lt}
use Rattle.version_order.specs.declared.plan.Entry.{Entry}
use Rattle.version_order.specs.Plan.{user_of, entry, entries}
use Rattle.version_order.specs.PlanLaws.{entries_ascend}
use Rattle.version_order.proofs.plan.Entries.push.Goals as goal

record FitsAlone (x : Entry) : Type 0 where
  user : user.Fits x.user
  number : version.Fits x.number
  plan : (raw 32).Fits x.plan

rows_pushed : (b : Option Entry) (xs : List Entry) (x : Entry) → FitsAlone x → above nat_cmp user_of b x.user ≡ true → All (λ e. e.user < x.user) xs → FitRows (after_row entry) b xs → FitRows (after_row entry) b (xs ++ x ∷ [])
unfolding FitRows
rows_pushed b [] x alone above all fits = (((alone.user, above), (alone.number, alone.plan)), tt)
rows_pushed b (y ∷ ys) x alone above all fits =
    (fits.0, rows_pushed (Some y) ys x alone (less_from_lt y.user x.user (All-head (λ e. e.user < x.user) y ys all)) (All-tail (λ e. e.user < x.user) y ys all) fits.1)

pushed : (xs : List Entry) (x : Entry) → FitsAlone x → All (λ e. e.user < x.user) xs → entries.Fits xs → entries.Fits (xs ++ x ∷ [])
pushed xs x alone all fits =
    let rows = rows_pushed None xs x alone refl all fits.1.1 in
    listed_fits w8 255 entry (xs ++ x ∷ []) (omega arith) (omega (arith, few_rows entry user_of 0 64 entries_ascend None (xs ++ x ∷ []) rows (omega arith))) rows

fits_either : {X E : Type 0} (r : Result X E) (xs ys : List Entry) (x : Entry) → FitsAlone x → All (λ e. e.user < x.user) xs → entries.Fits xs → ys ≡ (if is_ok r then xs ++ x ∷ [] else xs) → entries.Fits ys
fits_either (Ok u) xs ys x alone all fits e = subst entries.Fits (sym e) (pushed xs x alone all fits)
fits_either (Err u) xs ys x alone all fits e = subst entries.Fits (sym e) fits

pub invariant_of-self : goal.invariant_of-self
invariant_of-self g c =
    fits_either c.push.result c.self.inside.rows.items c.push.new.self.items c.args.entry (record { user = c.fits.ensures.user; number = c.fits.ensures.number; plan = c.fits.ensures.plan })
    (subst (All (λ e. e.user < c.args.entry.user)) (sym c.self.view_is) c.requires.above) c.self.invariant c.push.ensures.items

pub invariant_of-self-2 : goal.invariant_of-self-2
invariant_of-self-2 g c =
    fits_either c.push.result c.self.inside.rows.items c.push.new.self.items c.args.entry (record { user = c.fits.ensures.user; number = c.fits.ensures.number; plan = c.fits.ensures.plan })
    (subst (All (λ e. e.user < c.args.entry.user)) (sym c.self.view_is) c.requires.above) c.self.invariant c.push.ensures.items
