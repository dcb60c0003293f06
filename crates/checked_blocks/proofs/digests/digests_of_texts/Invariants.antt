use Rattle.std.proofs.Common.{◌≡◌, ◌++◌, map}
use Rattle.std.specs.Slice.Iter.{chunks_rest, chunks_size}
use Rattle.std.specs.Vec.{vec_items}
use Rattle.layout.specs.Hash.{hash}
use Rattle.checked_blocks.proofs.digests.digests_of_texts.Given as goal

abbrev pub invariant-loop-group : goal.invariant-loop-group
invariant-loop-group g l = record {
  size : chunks_size l.group-iterator ≡ 8;
  so_far : l.digests.items ++ map hash (map vec_items (chunks_rest l.group-iterator)) ≡ map hash (map vec_items l.texts);
}
