use Rattle.std.proofs.Common.{refl}
use Rattle.std.specs.NonZero.{non_zero_usize_get}
use Rattle.checked_blocks.specs.CheckedBlocks.{checked_blocks}
use Rattle.checked_blocks.proofs.MoveLaws.{are_taken, takes}
use Rattle.checked_blocks.proofs.checked.CheckedBlocks.take_up.Goals as goal

pub returns-clause-taken : goal.returns-clause-taken
returns-clause-taken g c =
    let i = c.self.inside in
    let k = checked_blocks i.first i.held.entries i.cache.entries (non_zero_usize_get i.capacity) in
    rw (← c.self.view_is) (takes k c.move_all.new.held.entries c.move_all.new.cache.entries k.capacity (rw c.reserve.ensures.entries at c.move_all.ensures.moved) refl)

pub invariant_of-self-2 : goal.invariant_of-self-2
invariant_of-self-2 g c =
    let i = c.self.inside in
    let k = checked_blocks i.first i.held.entries i.cache.entries (non_zero_usize_get i.capacity) in
    are_taken k _ c.self.invariant (takes k c.move_all.new.held.entries c.move_all.new.cache.entries k.capacity (rw c.reserve.ensures.entries at c.move_all.ensures.moved) refl)
