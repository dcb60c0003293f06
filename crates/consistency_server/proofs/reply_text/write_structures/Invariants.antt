use Rattle.std.proofs.Common.{◌≡◌, None, take}
use Rattle.std.specs.List.{All}
use Rattle.layout.specs.Format.{after_row, rows_onto}
use Rattle.pending_list.specs.Reply.{signed_structure, structure_rows}
use Rattle.consistency_server.proofs.reply_text.write_structures.Given as goal

abbrev pub invariant-loop-structure : goal.invariant-loop-structure
invariant-loop-structure g l =
    (l.writer ≡ rows_onto (after_row structure_rows) None l.fn.writer (take l.structure-index l.structures))
    × All signed_structure.Fits (take l.structure-index l.structures)
