use Rattle.std.proofs.Common.{◌≡◌, None, take}
use Rattle.std.specs.Prelude.{map}
use Rattle.layout.specs.Format.{after_row, rows_onto}
use Rattle.pending_list.specs.Reply.{pending_rows}
use Rattle.pending_list.proofs.reply.write_others.Given as goal

abbrev pub invariant-loop-other : goal.invariant-loop-other
invariant-loop-other g l =
    l.writer ≡ rows_onto (after_row pending_rows) None l.fn.writer (map g.H.HasItem.item (take l.other-index l.others))
