use Rattle.std.proofs.Common.{◌∙◌, sym}
use Rattle.honest_runs.proofs.Happening.{none_kept}
use Rattle.honest_runs.proofs.Keeping.{kept_more}
use Rattle.honest_runs.proofs.town.put_all.Goals as goal

pub loop-text-init : goal.loop-text-init
loop-text-init g c = sym (none_kept c.args.store.now)

pub loop-text-preserved : goal.loop-text-preserved
loop-text-preserved g c =
    kept_more c.args.store.now c.loop-text.store c.keep.new.self c.args.texts.now c.loop-text.text-index c.text-item.result
    c.in_ok-from_slice.field-0.items c.loop-text-test.true c.text-item.is (c.in_ok-from_slice.ensures.items ∙ c.deref.ensures.value)
    c.loop-text.invariant c.in_ok-keep.ensures.kept
