use Rattle.std.proofs.Common.{◌≡◌, ◌+◌, ◌-◌, ℕ, drop, Option, sym, ap, ◌∙◌, arith}
use Rattle.version_order.specs.declared.structure.GroupRecord.{GroupRecord}
use Rattle.version_order.specs.Structure.{Structure}
use Rattle.pending_list.specs.declared.signed.Signed.{Signed}
use Rattle.client_tree.specs.View.{newer, newest, record_of}
use Rattle.client_tree.proofs.ViewLaws.{newest_of_none, newest_before}
use Rattle.client_tree.proofs.view.newest.Goals as goal

pub loop-left-init : goal.loop-left-init
loop-left-init g c = (omega arith, sym (newest_of_none c.args.group c.args.structures.now))

pub loop-left-preserved : goal.loop-left-preserved
loop-left-preserved g c =
    let zs = c.args.structures.now in
    let inside = c.loop-left.invariant.0 in
    let some = c.loop-left-test.true in
    let more : c.loop-left.left - 1 + 1 ≡ c.loop-left.left = omega (arith, some) in
    let z = c.index-structures-left.result in
    let best : c.loop-left.best ≡ newest c.args.group (drop (c.loop-left.left - 1 + 1) zs) = c.loop-left.invariant.1 ∙ ap (λ (k : ℕ). newest c.args.group (drop k zs)) (sym more) in
    let written = ap (λ (r : Option GroupRecord). newer r c.loop-left.best) (c.copied.ensures ∙ c.record_of-written.ensures ∙ ap (record_of c.args.group) (c.as_slice.ensures.same ∙ c.groups.ensures)) in (
      omega (arith, inside),
      c.newer-best.ensures ∙ written ∙ ap (λ (y : Signed Structure). newer (record_of c.args.group y.value.groups) c.loop-left.best) (sym c.index-structures-left.is) ∙ newest_before c.args.group (c.loop-left.left - 1) zs z c.loop-left.best (omega (arith, inside, some)) c.index-structures-left.is best,
    )
