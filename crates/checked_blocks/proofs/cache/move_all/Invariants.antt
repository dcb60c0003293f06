use Rattle.std.proofs.Common.{◌≡◌, ◌≤◌, length}
use Rattle.std.specs.Vec.Iter.{into_iter_items}
use Rattle.indexmap.specs.IndexMap.{spare}
use Rattle.checked_blocks.specs.Moves.{Moved}
use Rattle.checked_blocks.proofs.cache.move_all.Given as goal

abbrev pub invariant-loop-digest : goal.invariant-loop-digest
invariant-loop-digest g l = record {
  can : (goal.iterator-loop-digest g).can_next l.digest-iterator;
  ends : (goal.iterator-loop-digest g).is_finite l.digest-iterator;
  moved : Moved l.fn.held.entries l.fn.cache.entries l.held.entries l.cache.entries;
  cap : l.cache.cap ≡ l.fn.cache.cap;
  room : length (into_iter_items l.digest-iterator) ≤ spare l.held;
}
