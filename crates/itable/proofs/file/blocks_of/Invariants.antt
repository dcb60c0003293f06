use Rattle.std.proofs.Common.{◌≡◌, ◌++◌, map}
use Rattle.std.specs.Slice.Iter.{chunks_rest, chunks_size}
use Rattle.std.specs.Vec.{vec_items}
use Rattle.itable.specs.File.{blocks_of}
use Rattle.itable.proofs.file.blocks_of.Given as goal

abbrev pub invariant-loop-block : goal.invariant-loop-block
invariant-loop-block g l = record {
  size : chunks_size l.block-iterator ≡ 4096;
  so_far : map vec_items l.blocks.items ++ blocks_of (chunks_rest l.block-iterator) ≡ blocks_of l.bytes;
}
