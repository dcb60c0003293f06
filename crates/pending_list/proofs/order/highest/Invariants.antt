use Rattle.std.proofs.Common.{◌≡◌, drop}
use Rattle.std.specs.Option.{option_copied}
use Rattle.pending_list.specs.Reply.{top}
use Rattle.pending_list.proofs.Highest.{best_of}
use Rattle.pending_list.proofs.order.highest.Given as goal

abbrev pub invariant-loop-structure : goal.invariant-loop-structure
invariant-loop-structure g l =
    best_of (option_copied l.best) (top (drop l.structure-index l.structures)) ≡ top l.structures
