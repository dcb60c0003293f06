use Rattle.std.proofs.Common.{◌≡◌, None, take}
use Rattle.std.specs.Prelude.{map}
use Rattle.std.specs.List.{All}
use Rattle.layout.specs.Format.{after_row, rows_onto}
use Rattle.pending_list.specs.Reply.{pending_item, pending_rows}
use Rattle.consistency_server.proofs.reply_text.write_pending.Given as goal

abbrev pub invariant-loop-placement : goal.invariant-loop-placement
invariant-loop-placement g l =
    (l.writer ≡ rows_onto (after_row pending_rows) None l.fn.writer (map (λ w. w.item) (take l.placement-index l.pending)))
    × All pending_item.Fits (map (λ w. w.item) (take l.placement-index l.pending))
