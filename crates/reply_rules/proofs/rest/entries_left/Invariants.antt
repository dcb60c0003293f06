use Rattle.std.proofs.Common.{◌≡◌, take}
use Rattle.reply_rules.specs.Rules.{left_of}
use Rattle.reply_rules.proofs.rest.entries_left.Given as goal

abbrev pub invariant-loop-entry : goal.invariant-loop-entry
invariant-loop-entry g l = l.left.items ≡ left_of l.known (take l.entry-index l.entries)
