use Rattle.std.proofs.Common.{◌≡◌, ◌++◌, ◌∷◌, [], List, ℕ, take, sym, ap, ◌∙◌}
use Rattle.version_order.specs.Plan.{Plan}
use Rattle.version_order.specs.Vector.{version_of}
use Rattle.reply_rules.specs.Rules.{versions_beyond}
use Rattle.reply_rules.proofs.RecordsLaws.{version_more, version_none}
use Rattle.reply_rules.proofs.records.versions_beyond.Goals.{then-is_beyond+in_ok-push, else-is_beyond}
use Rattle.reply_rules.proofs.records.versions_beyond.Goals as goal

pub loop-item-preserved : goal.loop-item-preserved
loop-item-preserved g c =
    let t = c.args.table.now in
    let h = c.args.group in
    let r = c.args.newest in
    let is = c.args.items.now in
    let k = c.loop-item.item-index in
    let i = c.item-item.result in
    elim c.if-is_beyond.branch [
      | then-is_beyond+in_ok-push w ↦ (
          let more = version_more t h r is k i c.loop-item-test.true c.item-item.is (sym c.is_beyond.ensures ∙ w.if-is_beyond.true) in
          let group : w.from.result ≡ h = w.from.ensures in
          let version : w.version_of.result ≡ version_of h i.plan.vector =
          w.version_of.ensures ∙ ap (λ p. version_of p w.vector.result.now) group ∙ ap (version_of h) (w.vector.ensures ∙ ap (λ (p : Plan). p.vector) w.plan.ensures) in
          rw w.versions-is
          (w.in_ok-push.ensures.items
          ∙ ap (λ (ns : List ℕ). ns ++ w.version_of.result ∷ []) c.loop-item.invariant
          ∙ ap (λ n. versions_beyond t h r (take k is) ++ n ∷ []) version
          ∙ sym more))
      | else-is_beyond w ↦ (
          let same = version_none t h r is k i c.loop-item-test.true c.item-item.is (sym c.is_beyond.ensures ∙ w.if-is_beyond.false) in
          rw w.versions-is (c.loop-item.invariant ∙ sym same))
    ]
