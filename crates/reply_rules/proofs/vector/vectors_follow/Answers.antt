use Rattle.std.proofs.Common.{◌≡◌, ◌+◌, ℕ, true, false, List, drop, sym, ap, ◌∙◌}
use Rattle.std.specs.Prelude.{◌&&◌}
use Rattle.std.proofs.lemmas.List.{drop_all}
use Rattle.version_order.specs.Plan.{Plan}
use Rattle.version_order.specs.declared.vector.Component.{Component}
use Rattle.version_order.specs.Vector.{raised, raised_all}
use Rattle.pending_list.specs.Groups.{raised_groups}
use Rattle.reply_rules.specs.Rules.{each_has_next_vector, same_vector, next_vector, top_vector}
use Rattle.reply_rules.proofs.VectorLaws.{next_follows}
use Rattle.reply_rules.proofs.vector.vectors_follow.Goals as goal

pub loop-item-preserved : goal.loop-item-preserved
loop-item-preserved g c =
    let t = c.args.table.now in
    let i = c.item-item.result in
    let v = c.loop-item.next in
    let is = c.above-above.result.now in
    let k = c.loop-item.item-index in
    let groups : c.deref.result.now ≡ raised_groups t i = c.deref.ensures.value ∙ c.in_ok-groups.ensures in
    let told : same_vector i.plan.vector (next_vector t i v) ≡ true =
    ap (λ (gs : List ℕ). same_vector i.plan.vector (raised_all gs (raised i.plan.user v))) (sym groups)
    ∙ ap (λ (p : Plan). same_vector p.vector (raised_all c.deref.result.now (raised p.user v))) (sym c.plan.ensures)
    ∙ sym c.in_ok-follows.ensures.follows
    ∙ c.if-not-branch.false in
    let new : c.follows.new.next ≡ i.plan.vector = c.in_ok-follows.ensures.next c.if-not-branch.false ∙ ap (λ (p : Plan). p.vector) c.plan.ensures in
    ap (λ (w : List Component). each_has_next_vector t w (drop (k + 1) is)) new
    ∙ sym (next_follows t v is k i c.loop-item-test.true c.item-item.is ∙ ap (λ b. b && each_has_next_vector t i.plan.vector (drop (k + 1) is)) told)
    ∙ c.loop-item.invariant

-- one that doesn't follow
pub returns-then-not-branch : goal.returns-then-not-branch
returns-then-not-branch g c =
    let t = c.args.table.now in
    let i = c.item-item.result in
    let v = c.loop-item.next in
    let is = c.above-above.result.now in
    let k = c.loop-item.item-index in
    let groups : c.deref.result.now ≡ raised_groups t i = c.deref.ensures.value ∙ c.in_ok-groups.ensures in
    let told : same_vector i.plan.vector (next_vector t i v) ≡ false =
    ap (λ (gs : List ℕ). same_vector i.plan.vector (raised_all gs (raised i.plan.user v))) (sym groups)
    ∙ ap (λ (p : Plan). same_vector p.vector (raised_all c.deref.result.now (raised p.user v))) (sym c.plan.ensures)
    ∙ sym c.in_ok-follows.ensures.follows
    ∙ c.if-not-branch.true in
    sym (ap (each_has_next_vector t (top_vector c.args.lists.now)) (sym c.above-above.ensures)
    ∙ sym c.loop-item.invariant
    ∙ next_follows t v is k i c.loop-item-test.true c.item-item.is
    ∙ ap (λ b. b && each_has_next_vector t i.plan.vector (drop (k + 1) is)) told)

pub returns : goal.returns
returns g c =
    let t = c.args.table.now in
    let is = c.above-above.result.now in
    sym (ap (each_has_next_vector t (top_vector c.args.lists.now)) (sym c.above-above.ensures)
    ∙ sym c.loop-item.invariant
    ∙ ap (each_has_next_vector t c.loop-item.next) (drop_all c.loop-item.item-index is c.loop-item-test.false))

pub loop-item-init : goal.loop-item-init
loop-item-init g c = ap (λ (v : List Component). each_has_next_vector c.args.table.now v c.above-above.result.now) c.in_ok-next.ensures
