use Rattle.std.proofs.Common.{take}
use Rattle.std.specs.List.{All}
use Rattle.pending_list.specs.Reply.{pending_item}
use Rattle.pending_list.proofs.reply.pending_fit.Given as goal

abbrev pub invariant-loop-item : goal.invariant-loop-item
invariant-loop-item g l = All pending_item.Fits (take l.item-index l.pending)
