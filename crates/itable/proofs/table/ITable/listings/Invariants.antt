use Rattle.std.proofs.Common.{◌≡◌}
use Rattle.std.specs.Prelude.{filter_map}
use Rattle.std.specs.List.{range_with_len}
use Rattle.itable.specs.ITable.{listing}
use Rattle.itable.proofs.table.ITable.listings.Given as goal

abbrev pub invariant-loop-number : goal.invariant-loop-number
invariant-loop-number g l = record { so_far : l.chunks.items ≡ filter_map (listing l.fn.self) (range_with_len 0 l.number); same : l.self ≡ l.fn.self }
