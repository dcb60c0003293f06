use Rattle.std.proofs.Common.{◌≡◌, map}
use Rattle.std.specs.Prelude.{filter_map}
use Rattle.std.specs.List.{range_with_len}
use Rattle.std.specs.Vec.{vec_items}
use Rattle.itable.specs.ITable.{new_chunk}
use Rattle.itable.proofs.table.ITable.new_chunks.Given as goal

abbrev pub invariant-loop-number : goal.invariant-loop-number
invariant-loop-number g l = map vec_items l.texts.items ≡ filter_map (new_chunk l.fn.before l.fn.self) (range_with_len 0 l.number)
