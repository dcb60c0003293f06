use Rattle.std.proofs.Common.{ℕ, Some, sym, ap, ◌∙◌}
use Rattle.principals.specs.Table.{Table}
use Rattle.update_cert.specs.World.{Principals}
use Rattle.update_cert.specs.Tables.{table_after}
use Rattle.update_cert.specs.TableVoids.{table_voids}
use Rattle.update_cert.proofs.TableStands.{changes_fit, stands, voids_are}
use Rattle.update_cert.proofs.tables.apply_table.Goals as goal

pub returns-then-not-may_change-clause-table : goal.returns-then-not-may_change-clause-table
returns-then-not-may_change-clause-table g c = λ reads tree actor stood of at.
    let cert = c.args.cert.now in
    let old = c.args.table.now in
    stands reads actor cert.changes tree old (changes_fit cert c.may_change.ensures.fits) stood
    ∙ ap (λ (u : ℕ). Some (Principals (table_after u actor.number cert.changes old))) of
    ∙ ap (λ (n : ℕ). Some (Principals (table_after cert.user n cert.changes old))) at
    ∙ ap (λ (t : Table). Some (Principals t)) (sym c.in_ok-numbers.ensures.table)

pub returns-then-not-may_change-clause-voids : goal.returns-then-not-may_change-clause-voids
returns-then-not-may_change-clause-voids g c = λ reads tree actor stood of at.
    let cert = c.args.cert.now in
    let old = c.args.table.now in
    c.of.ensures
    ∙ c.in_ok-numbers.ensures.voids
    ∙ sym (voids_are reads actor cert.changes tree old (changes_fit cert c.may_change.ensures.fits) stood
    ∙ ap (λ (u : ℕ). table_voids 1 u actor.number cert.changes old) of
    ∙ ap (λ (n : ℕ). table_voids 1 cert.user n cert.changes old) at)

pub returns-clause-table : goal.returns-clause-table
returns-clause-table g c = λ reads tree actor stood of at.
    let cert = c.args.cert.now in
    let old = c.args.table.now in
    stands reads actor cert.changes tree old (changes_fit cert c.may_change.ensures.fits) stood
    ∙ ap (λ (u : ℕ). Some (Principals (table_after u actor.number cert.changes old))) of
    ∙ ap (λ (n : ℕ). Some (Principals (table_after cert.user n cert.changes old))) at
    ∙ ap (λ (t : Table). Some (Principals t)) (sym (c.in_ok-numbers-2.ensures.table ∙ ap (table_after cert.user cert.number cert.changes) c.in_ok-new.ensures))

pub returns-clause-voids : goal.returns-clause-voids
returns-clause-voids g c = λ reads tree actor stood of at.
    let cert = c.args.cert.now in
    let old = c.args.table.now in
    c.of-2.ensures
    ∙ c.in_ok-numbers-2.ensures.voids
    ∙ ap (table_voids 1 cert.user cert.number cert.changes) c.in_ok-new.ensures
    ∙ sym (voids_are reads actor cert.changes tree old (changes_fit cert c.may_change.ensures.fits) stood
    ∙ ap (λ (u : ℕ). table_voids 1 u actor.number cert.changes old) of
    ∙ ap (λ (n : ℕ). table_voids 1 cert.user n cert.changes old) at)
