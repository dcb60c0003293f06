use Rattle.std.proofs.Common.{map}
use Rattle.std.specs.NonZero.{non_zero_usize_get}
use Rattle.std.specs.Vec.{vec_items}
use Rattle.checked_blocks.specs.CheckedBlocks.{checked_blocks}
use Rattle.checked_blocks.proofs.MoveLaws.{are_kept, keeps}
use Rattle.checked_blocks.proofs.checked.CheckedBlocks.keep.Goals as goal

pub invariant_of-self : goal.invariant_of-self
invariant_of-self g c =
    let i = c.self.inside in
    let k = checked_blocks i.first i.held.entries i.cache.entries (non_zero_usize_get i.capacity) in
    are_kept k (map vec_items c.args.texts.now) c.put_copies.new.cache.entries c.self.invariant (rw c.resize.ensures at c.put_copies.ensures.of_texts)

pub returns : goal.returns
returns g c =
    let i = c.self.inside in
    let k = checked_blocks i.first i.held.entries i.cache.entries (non_zero_usize_get i.capacity) in
    rw (← c.self.view_is) (keeps k (map vec_items c.args.texts.now) c.put_copies.new.cache.entries (rw c.resize.ensures at c.put_copies.ensures.put) (rw c.resize.ensures at c.put_copies.ensures.of_texts)
    (rw c.resize.ensures at c.put_copies.ensures.few))
