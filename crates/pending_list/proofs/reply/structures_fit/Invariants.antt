use Rattle.std.proofs.Common.{take}
use Rattle.std.specs.List.{All}
use Rattle.pending_list.specs.Reply.{signed_structure}
use Rattle.pending_list.proofs.reply.structures_fit.Given as goal

abbrev pub invariant-loop-structure : goal.invariant-loop-structure
invariant-loop-structure g l = All signed_structure.Fits (take l.structure-index l.structures)
