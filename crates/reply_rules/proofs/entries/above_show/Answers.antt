use Rattle.std.proofs.Common.{List, take, length, sym, ap, ◌∙◌, arith}
use Rattle.std.proofs.lemmas.List.{length-take-le, drop_all}
use Rattle.version_order.specs.declared.plan.Entry.{Entry}
use Rattle.reply_rules.specs.Rules.{above, above_show, all_show}
use Rattle.pending_list.specs.Reply.{PendingItem}
use Rattle.reply_rules.proofs.EntriesLaws.{above_size, above_length, above_at, before_at, shown_so, left_so, stops, goes_on}
use Rattle.reply_rules.proofs.entries.above_show.Goals as goal

pub slice_bounds-before-end : goal.slice_bounds-before-end
slice_bounds-before-end g c =
    let x = c.args.lists.now in
    let items = ap (λ (is : List PendingItem). length is) c.above-items.ensures in
    let made = ap (λ (es : List Entry). length es) c.requires.later in
    sym (length-take-le c.loop-k.k c.args.later.now (omega (arith, c.loop-k-test.true, items, made, above_size x)))

pub returns-then-not-shows : goal.returns-then-not-shows
returns-then-not-shows g c =
    let x = c.args.lists.now in
    let k = c.loop-k.k in
    let i = c.index-items-k.result in
    let at = above_at x c.above-items.result.now k i c.above-items.ensures c.loop-k-test.true c.index-items-k.is in
    let shown = shown_so x c.args.waits.now (take k c.args.later.now) (take k (above x)) c.loop-k.rest i.plan c.plan-plan.result.now c.shows.result c.requires.waits (before_at x c.args.later.now k c.requires.later) c.plan-plan.ensures c.shows.ensures in
    stops x (above x) k i.plan c.loop-k.rest (above_show x) at.0 at.1 c.loop-k.invariant (sym shown ∙ c.if-not-shows.true)

pub loop-k-preserved : goal.loop-k-preserved
loop-k-preserved g c =
    let x = c.args.lists.now in
    let k = c.loop-k.k in
    let i = c.index-items-k.result in
    let at = above_at x c.above-items.result.now k i c.above-items.ensures c.loop-k-test.true c.index-items-k.is in
    let before = before_at x c.args.later.now k c.requires.later in
    let shown = shown_so x c.args.waits.now (take k c.args.later.now) (take k (above x)) c.loop-k.rest i.plan c.plan-plan.result.now c.shows.result c.requires.waits before c.plan-plan.ensures c.shows.ensures in
    let es = c.as_slice.ensures.same ∙ c.entries.ensures in
    let left = left_so (take k c.args.later.now) c.as_slice.result.now _ (take k (above x)) i.plan c.plan-plan.result.now before es c.plan-plan.ensures c.in_ok-left.ensures in
    goes_on x (above x) k i.plan c.loop-k.rest _ (above_show x) at.0 at.1 left c.loop-k.invariant (sym shown ∙ c.if-not-shows.false)

pub returns : goal.returns
returns g c =
    let x = c.args.lists.now in
    let k = c.loop-k.k in
    let items = ap (λ (is : List PendingItem). length is) c.above-items.ensures in
    let none = drop_all k (above x) (omega (arith, c.loop-k-test.false, items, above_length x)) in
    sym (ap (all_show x (take k (above x)) c.loop-k.rest) none) ∙ c.loop-k.invariant
