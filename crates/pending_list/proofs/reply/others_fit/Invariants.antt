use Rattle.std.proofs.Common.{take}
use Rattle.std.specs.Prelude.{map}
use Rattle.std.specs.List.{All}
use Rattle.pending_list.specs.Reply.{pending_item}
use Rattle.pending_list.proofs.reply.others_fit.Given as goal

abbrev pub invariant-loop-other : goal.invariant-loop-other
invariant-loop-other g l = All pending_item.Fits (map g.H.HasItem.item (take l.other-index l.others))
