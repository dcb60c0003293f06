use Rattle.std.proofs.Common.{◌≡◌, ◌++◌, map}
use Rattle.std.specs.Slice.Iter.{chunks_rest, chunks_size}
use Rattle.layout.specs.Hash.{hash}
use Rattle.itable.specs.File.{blocks_of}
use Rattle.itable.proofs.file.push_each.Given as goal

abbrev pub invariant-loop-block : goal.invariant-loop-block
invariant-loop-block g l = record {
  size : chunks_size l.block-iterator ≡ 4096;
  so_far : l.digests.items ++ map hash (blocks_of (chunks_rest l.block-iterator)) ≡ l.initial.digests.items ++ map hash (blocks_of l.bytes);
}
