use Rattle.std.proofs.Common.{◌≡◌, drop}
use Rattle.std.specs.List.{list_all}
use Rattle.reply_check.specs.FirstBroken.{structure_verifies}
use Rattle.reply_check.proofs.verdict.structures_verify.Given as goal

abbrev pub invariant-loop-structure : goal.invariant-loop-structure
invariant-loop-structure g l =
    list_all (structure_verifies l.known.pinned) (drop l.structure-index l.structures) ≡ list_all (structure_verifies l.known.pinned) l.structures
