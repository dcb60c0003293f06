use Rattle.std.proofs.Common.{◌≢◌, ◌∷◌, arith}
use Rattle.std.specs.Int.{w32}
use Rattle.std.proofs.lemmas.List.{length-map}
use Rattle.layout.specs.Laws.{in_range_fits}
use Rattle.principals.specs.declared.table.Row.{Row}
use Rattle.principals.specs.Table.{ended}
use Rattle.principals.proofs.FitLaws.{drop_fits}
use Rattle.principals.proofs.MarksLaws.{marks_ended}
use Rattle.principals.proofs.table.Table.end_member.Goals as goal

pub invariant_of-self : goal.invariant_of-self
invariant_of-self g c =
    let rows = c.self.inside.rows.items in
    let f : Row → Row = ended c.args.number c.args.group c.args.user in
    let positive : c.args.number ≢ 0 = λ e. absurd (omega (arith, c.get-number.ensures.positive, e)) in
    rw (c.end_rows.ensures, c.slot.ensures.place) (record {
      listed = c.self.invariant.listed;
      few = omega (arith, length-map rows f, c.self.invariant.few);
      marked = marks_ended c.self.inside.marks rows c.args.number c.args.group c.args.user c.slot.ensures.group.0 c.slot.ensures.group.1 c.slot.ensures.user positive c.self.invariant.marked;
    })

pub returns-clause-fits : goal.returns-clause-fits
returns-clause-fits g c =
    let positive : c.args.number ≢ 0 = λ e. absurd (omega (arith, c.get-number.ensures.positive, e)) in
    let wide = in_range_fits w32 0 4294967295 c.args.number c.get-number.ensures.fits.0 (omega arith) (omega (arith, c.get-number.ensures.fits.0)) in
    rw (← c.self.view_is, c.end_rows.ensures) (λ fits order. drop_fits (c.self.inside.superuser ∷ c.self.inside.others.items) c.self.inside.rows.items c.args.number c.args.group c.args.user fits positive wide order)
