use Rattle.std.proofs.Common.{◌≡◌, take}
use Rattle.reply_check.proofs.lists.Lists.copies.Given as goal

abbrev pub invariant-loop-shown : goal.invariant-loop-shown
invariant-loop-shown g l = l.copies.items ≡ take l.shown-index l.fn.self.structures
