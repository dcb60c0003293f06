use Rattle.std.proofs.Common.{◌≡◌, drop, map}
use Rattle.std.specs.Vec.{vec_items}
use Rattle.checked_blocks.proofs.MoveLaws.{PutSoFar}
use Rattle.checked_blocks.proofs.cache.put_copies.Given as goal

abbrev pub invariant-loop-place : goal.invariant-loop-place
invariant-loop-place g l = record {
  so_far : PutSoFar l.fn.cache.cap (map vec_items l.texts) l.fn.cache.entries (map vec_items (drop l.place l.texts)) l.cache.entries;
  cap : l.cache.cap ≡ l.fn.cache.cap;
}
