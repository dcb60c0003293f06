use Rattle.std.proofs.Common.{◌≡◌}
use Rattle.checked_blocks.proofs.MoveLaws.{Left}
use Rattle.checked_blocks.proofs.cache.put_back.Given as goal

abbrev pub invariant-loop-block : goal.invariant-loop-block
invariant-loop-block g l = record {
  can : (goal.iterator-loop-block g).can_next l.block-iterator;
  ends : (goal.iterator-loop-block g).is_finite l.block-iterator;
  left : Left l.fn.cache.cap l.fn.held.entries l.fn.cache.entries l.block-iterator l.cache.entries;
  cap : l.cache.cap ≡ l.fn.cache.cap;
}
