use Rattle.std.proofs.Common.{◌≡◌, ◌+◌, drop, sym, ap, ◌∙◌}
use Rattle.reply_rules.specs.Rules.{greater, newest_in, newest}
use Rattle.reply_rules.proofs.RecordsLaws.{next_newest, best_with, best_without}
use Rattle.reply_rules.proofs.records.newest.Goals.{then-best-version, else-best-version}
use Rattle.reply_rules.proofs.records.newest.Goals as goal

pub loop-structure-preserved : goal.loop-structure-preserved
loop-structure-preserved g c =
    let h = c.args.group in
    let zs = c.args.structures.now in
    let z = c.structure-item.result in
    let k = c.loop-structure.structure-index in
    let before = c.loop-structure.best in
    let version : c.newest_in-version.result ≡ newest_in h z.value.groups = c.newest_in-version.ensures ∙ ap (newest_in h) (c.as_slice.ensures.same ∙ c.groups.ensures) in
    let best : c.if-best-version.best ≡ greater before (newest_in h z.value.groups) =
    elim c.if-best-version.branch [
      | then-best-version w ↦ best_with before c.newest_in-version.result (newest_in h z.value.groups) c.if-best-version.best version w.if-best-version.true w.best-is
      | else-best-version w ↦ best_without before c.newest_in-version.result (newest_in h z.value.groups) c.if-best-version.best version w.if-best-version.false w.best-is
    ] in
    ap (λ n. greater n (newest h (drop (k + 1) zs))) best ∙ sym (next_newest h before zs k z c.loop-structure-test.true c.structure-item.is) ∙ c.loop-structure.invariant
