use Rattle.std.proofs.Common.{◌≡◌}
use Rattle.std.specs.Prelude.{filter_map}
use Rattle.std.specs.Option.{option_map}
use Rattle.version_order.specs.Plan.{entry_of}
use Rattle.consistency_server.specs.Event.{users_below}
use Rattle.consistency_server.specs.State.{pending_of}
use Rattle.consistency_server.proofs.placement.entries_of.Given as goal

abbrev pub invariant-loop-number : goal.invariant-loop-number
invariant-loop-number g l =
    l.entries ≡ filter_map (λ u. option_map (λ w. entry_of w.item.plan) (pending_of u l.pending)) (users_below l.number)
