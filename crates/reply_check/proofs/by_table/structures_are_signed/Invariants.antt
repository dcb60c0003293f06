use Rattle.std.proofs.Common.{◌≡◌, drop}
use Rattle.std.specs.List.{list_all}
use Rattle.reply_check.specs.FirstBroken.{structure_is_signed}
use Rattle.reply_check.proofs.by_table.structures_are_signed.Given as goal

abbrev pub invariant-loop-shown : goal.invariant-loop-shown
invariant-loop-shown g l =
    list_all (structure_is_signed l.table) (drop l.shown-index l.structures)
    ≡ list_all (structure_is_signed l.table) l.structures
