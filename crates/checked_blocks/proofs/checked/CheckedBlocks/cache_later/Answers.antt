use Rattle.std.specs.NonZero.{non_zero_usize_get}
use Rattle.checked_blocks.specs.CheckedBlocks.{checked_blocks}
use Rattle.checked_blocks.proofs.BlockLaws.{are_later}
use Rattle.checked_blocks.proofs.checked.CheckedBlocks.cache_later.Goals as goal

pub invariant_of-self : goal.invariant_of-self
invariant_of-self g c =
    let i = c.self.inside in
    let k = checked_blocks i.first i.held.entries i.cache.entries (non_zero_usize_get i.capacity) in
    are_later k c.in-Some.capacity.value c.self.invariant (rw c.in-Some.ensures c.requires.fits)
