-- The entries that are left are those of the structures that are left, of which top is one.
use Rattle.std.proofs.Common.{◌≡◌, Some, map, drop}
use Rattle.pending_list.specs.Reply.{top}
use Rattle.reply_rules.specs.Rules.{entries_of}
use Rattle.reply_rules.proofs.entries.entry_of_top.Given as goal

abbrev pub invariant-loop-structure : goal.invariant-loop-structure
invariant-loop-structure g l =
    record { made : l.rest ≡ entries_of (map (λ z. z.value.plan) (drop l.structure-index l.structures)); best : top (drop l.structure-index l.structures) ≡ Some l.best }
