use Rattle.std.proofs.Common.{true, false, refl, sym, ◌∙◌}
use Rattle.client_tree.specs.Lost.{lost_from}
use Rattle.client_tree.proofs.LostLaws.{lost_next, lost_all}
use Rattle.client_tree.proofs.lost.lost_among.Goals.{then-not-is_kept+in_ok-push, else-not-is_kept}
use Rattle.client_tree.proofs.lost.lost_among.Goals as goal

pub loop-place-preserved : goal.loop-place-preserved
loop-place-preserved g c =
    let vs = c.args.parts.now in
    let table = c.args.table.now in
    let cs = c.args.changes.now in
    let k = c.loop-place.place in
    let change = c.index-changes-place.result in
    let old = c.loop-place.lost.items in
    elim c.if-not-is_kept.branch [
      | then-not-is_kept+in_ok-push w ↦
          rw w.lost-is (lost_next vs table old w.push.new.self.items (lost_from 1 vs table cs) cs k change false c.loop-place-test.true c.index-changes-place.is (sym c.is_kept.ensures ∙ w.if-not-is_kept.true) w.in_ok-push.ensures.items c.loop-place.invariant)
      | else-not-is_kept w ↦
          rw w.lost-is (lost_next vs table old old (lost_from 1 vs table cs) cs k change true c.loop-place-test.true c.index-changes-place.is (sym c.is_kept.ensures ∙ w.if-not-is_kept.false) refl c.loop-place.invariant)
    ]

pub returns : goal.returns
returns g c = lost_all c.args.parts.now c.args.table.now c.loop-place.lost.items (lost_from 1 c.args.parts.now c.args.table.now c.args.changes.now) c.args.changes.now c.loop-place.place c.loop-place-test.false c.loop-place.invariant
