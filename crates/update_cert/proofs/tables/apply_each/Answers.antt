use Rattle.std.proofs.Common.{◌≡◌, ◌+◌, ℕ, List, length, take, refl, sym, ap, ◌∙◌, subst, arith}
use Rattle.std.proofs.lemmas.List.{length-take, take_all}
use Rattle.std.specs.Vec.{vec_items}
use Rattle.layout.specs.Types.{Digest}
use Rattle.principals.specs.TableText.{NoneAfter}
use Rattle.update_cert.specs.Change.{Change}
use Rattle.update_cert.specs.Tables.{table_after_change, table_after}
use Rattle.update_cert.specs.TableVoids.{is_void_on, table_voids}
use Rattle.update_cert.proofs.Numbers.{take_next, pushed, not_pushed}
use Rattle.update_cert.proofs.TableLaws.{table_next, table_voids_next, front_stays, none_after}
use Rattle.update_cert.proofs.tables.apply_each.Goals.{then-branch+in_ok-push, else-branch}
use Rattle.update_cert.proofs.tables.apply_each.Goals as goal

pub loop-place-init : goal.loop-place-init
unfolding table_after table_voids
loop-place-init g c = record {
  table = refl;
  voids = c.new-numbers.ensures.items;
  fits = λ fits none. fits;
}

pub loop-place-preserved : goal.loop-place-preserved
loop-place-preserved g c =
    let inv = c.loop-place.invariant in
    let first = c.args.table.now in
    let old = c.loop-place.table in
    let new = c.apply_change.new.table in
    let user = c.args.cert.now.user in
    let number = c.args.cert.now.number in
    let cs = c.args.cert.now.changes in
    let k = c.loop-place.place in
    let change = c.change-item.result in
    let done = c.in_ok-apply_change.ensures in
    let inside = rw c.changes-change-items.ensures at c.loop-place-test.true in
    let at = rw c.changes-change-items.ensures at c.change-item.is in
    let front = take_next cs k change inside at in
    let long : length (take k cs) ≡ k = length-take k cs ∙ omega (arith, inside) in
    let told = done.void ∙ ap (λ (u : ℕ). is_void_on u c.number-number.result change old) c.user-user.ensures.same ∙ ap (λ (n : ℕ). is_void_on user n change old) c.number-number.ensures in
    let moved = done.table ∙ ap (λ (u : ℕ). table_after_change u c.number-number.result change old) c.user-user.ensures.same ∙ ap (λ (n : ℕ). table_after_change user n change old) c.number-number.ensures in
    record {
      table = table_next user number (take k cs) (take (k + 1) cs) change first old new front inv.table moved;
      voids = table_voids_next user number k (take k cs) (take (k + 1) cs) change first old c.loop-place.numbers.items c.if-branch.numbers.items c.in_ok-apply_change.field-0 front long inv.table told inv.voids
          (elim c.if-branch.branch [
            | then-branch+in_ok-push w ↦ pushed c.loop-place.numbers.items c.if-branch.numbers.items (k + 1) c.in_ok-apply_change.field-0 w.if-branch.true (ap vec_items w.numbers-is ∙ w.in_ok-push.ensures.items)
            | else-branch w ↦ not_pushed c.loop-place.numbers.items c.if-branch.numbers.items (k + 1) c.in_ok-apply_change.field-0 w.if-branch.false (ap vec_items w.numbers-is)
          ]);
      fits = λ fits none.
          done.fits (inv.fits fits none)
          (subst (λ (n : ℕ). NoneAfter n old) (sym c.number-number.ensures) (subst (NoneAfter number) (sym inv.table) (none_after user number (take k cs) first none)));
    }

pub returns-clause-table : goal.returns-clause-table
returns-clause-table g c =
    let cs = c.args.cert.now.changes in
    let past = rw c.changes-change-items.ensures at c.loop-place-test.false in
    let all = take_all c.loop-place.place cs past in
    subst (λ (xs : List (Change Digest)). c.loop-place.table ≡ table_after c.args.cert.now.user c.args.cert.now.number xs c.args.table.now) all c.loop-place.invariant.table

pub returns-clause-voids : goal.returns-clause-voids
returns-clause-voids g c =
    let cs = c.args.cert.now.changes in
    let past = rw c.changes-change-items.ensures at c.loop-place-test.false in
    let all = take_all c.loop-place.place cs past in
    subst (λ (xs : List (Change Digest)). c.loop-place.numbers.items ≡ table_voids 1 c.args.cert.now.user c.args.cert.now.number xs c.args.table.now) all c.loop-place.invariant.voids

pub returns-clause-stays : goal.returns-clause-stays
returns-clause-stays g c = λ none.
    c.loop-place.invariant.table ∙ front_stays c.args.cert.now.user c.args.cert.now.number c.loop-place.place c.args.cert.now.changes c.args.table.now none

pub returns-in_err-apply_change-clause-stays : goal.returns-in_err-apply_change-clause-stays
returns-in_err-apply_change-clause-stays g c = λ none.
    c.in_err-apply_change.ensures.err ∙ c.loop-place.invariant.table ∙ front_stays c.args.cert.now.user c.args.cert.now.number c.loop-place.place c.args.cert.now.changes c.args.table.now none

pub returns-in_err-push-clause-stays : goal.returns-in_err-push-clause-stays
returns-in_err-push-clause-stays g c = λ none.
    let user = c.args.cert.now.user in
    let number = c.args.cert.now.number in
    let cs = c.args.cert.now.changes in
    let k = c.loop-place.place in
    let change = c.change-item.result in
    let old = c.loop-place.table in
    let inside = rw c.changes-change-items.ensures at c.loop-place-test.true in
    let at = rw c.changes-change-items.ensures at c.change-item.is in
    let moved = c.in_ok-apply_change.ensures.table ∙ ap (λ (u : ℕ). table_after_change u c.number-number.result change old) c.user-user.ensures.same ∙ ap (λ (n : ℕ). table_after_change user n change old) c.number-number.ensures in
    table_next user number (take k cs) (take (k + 1) cs) change c.args.table.now old c.apply_change.new.table (take_next cs k change inside at) c.loop-place.invariant.table moved
    ∙ front_stays user number (k + 1) cs c.args.table.now none
