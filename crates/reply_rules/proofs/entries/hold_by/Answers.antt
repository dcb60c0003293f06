use Rattle.std.proofs.Common.{List, length, refl, sym, ap, arith}
use Rattle.std.proofs.lemmas.List.{length-take-le}
use Rattle.version_order.specs.declared.plan.Entry.{Entry}
use Rattle.pending_list.specs.Reply.{PendingItem}
use Rattle.reply_rules.proofs.EntriesLaws.{waiting_entries, above_entries, entries_of_others, others_size}
use Rattle.reply_rules.proofs.entries.hold_by.Goals as goal

pub slice_bounds-others-end : goal.slice_bounds-others-end
slice_bounds-others-end g c =
    let others = ap (λ (is : List PendingItem). length is) c.others.ensures in
    let made = ap (λ (es : List Entry). length es) c.requires.made in
    sym (length-take-le (length c.others.result.now) c.args.made.now (omega (arith, others, made, others_size c.args.lists.now)))

pub all_hold-requires-clause-waits : goal.all_hold-requires-clause-waits
all_hold-requires-clause-waits g c =
    let is = c.waiting.result.now in
    waiting_entries c.args.lists.now is (length is) c.args.made.now c.split_at.result.0.now c.waiting.ensures.waiting c.waiting.ensures.joined refl c.requires.made c.split_at.ensures.front

pub all_hold-requires-clause-later : goal.all_hold-requires-clause-later
all_hold-requires-clause-later g c =
    let is = c.waiting.result.now in
    above_entries c.args.lists.now is (length is) c.args.made.now c.split_at.result.1.now c.waiting.ensures.waiting c.waiting.ensures.joined refl c.requires.made c.split_at.ensures.back

pub all_hold-requires-clause-others : goal.all_hold-requires-clause-others
all_hold-requires-clause-others g c =
    let is = c.others.result.now in
    entries_of_others c.args.lists.now is (length is) c.args.made.now c.others.ensures refl c.requires.made
