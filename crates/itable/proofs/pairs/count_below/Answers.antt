use Rattle.std.proofs.Common.{ltb, rules}
use Rattle.std.proofs.lemmas.Bool.{ltb-true, ltb-false}
use Rattle.std.proofs.lemmas.List.Sorted.{IsPartitionPoint-from_clause, IsPartitionedBy-ltb}
use Rattle.itable.specs.Chunk.{chunk_number}
use Rattle.itable.proofs.Runs.{chunks_rise}
use Rattle.itable.proofs.pairs.count_below.Goals as goal

-- the closure tests the chunk of a pair
pub returns : goal.returns
returns c =
    let ps = c.args.pairs.now in
    let n = c.args.number in
    let parted = IsPartitionedBy-ltb (λ p. chunk_number p.i_number) ps n (chunks_rise _ ps c.requires) in
    let point = IsPartitionPoint-from_clause (λ p. ltb (chunk_number p.i_number) n) ps _ c.partition_point.ensures.partitioned parted (λ a r q k. search rules) in
    record {
      inside = c.partition_point.ensures.bound;
      below = λ k d low high. ltb-true _ _ (point.0 k d low high);
      from = λ k d low high. ltb-false _ _ (point.1 k d low high);
    }
