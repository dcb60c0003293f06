use Rattle.std.specs.NonZero.{non_zero_usize_get}
use Rattle.checked_blocks.specs.CheckedBlocks.{checked_blocks, with_capacity}
use Rattle.checked_blocks.proofs.BlockLaws.{are_part, knows_part_cached}
use Rattle.checked_blocks.proofs.checked.CheckedBlocks.cache.Goals as goal

pub invariant_of-self : goal.invariant_of-self
invariant_of-self g c =
    let i = c.self.inside in
    let k = checked_blocks i.first i.held.entries i.cache.entries (non_zero_usize_get i.capacity) in
    rw c.resize.ensures (are_part k (with_capacity c.in-Some.capacity.value k) c.self.invariant (knows_part_cached k c.in-Some.capacity.value) (rw c.in-Some.ensures c.requires.fits))
