use Rattle.std.proofs.Common.{◌≡◌, ◌++◌, map}
use Rattle.std.specs.Slice.Iter.{chunks_rest, chunks_size}
use Rattle.layout.specs.Hash.{hash}
use Rattle.itable.specs.File.{blocks_of}
use Rattle.itable.proofs.file.digests_of.Given as goal

abbrev pub invariant-loop-piece : goal.invariant-loop-piece
invariant-loop-piece g l = record {
  size : chunks_size l.piece-iterator ≡ 32768;
  so_far : l.digests.items ++ map hash (blocks_of (chunks_rest l.piece-iterator)) ≡ map hash (blocks_of l.bytes);
}
