use Rattle.std.proofs.Common.{◌≡◌, ◌+◌, drop}
use Rattle.reply_rules.specs.Split.{place_above}
use Rattle.reply_rules.proofs.reply_lists.place_above.Given as goal

abbrev pub invariant-loop-item : goal.invariant-loop-item
invariant-loop-item g l =
    record { index : l.before ≡ l.item-index; rest : l.before + place_above l.depth (drop l.item-index l.pending) ≡ place_above l.depth l.pending }
