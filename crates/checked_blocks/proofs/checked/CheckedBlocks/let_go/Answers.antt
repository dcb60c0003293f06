use Rattle.std.specs.NonZero.{non_zero_usize_get}
use Rattle.checked_blocks.specs.CheckedBlocks.{checked_blocks}
use Rattle.checked_blocks.proofs.MoveLaws.{are_let_go, lets_go}
use Rattle.checked_blocks.proofs.checked.CheckedBlocks.let_go.Goals as goal

pub invariant_of-self : goal.invariant_of-self
invariant_of-self g c =
    let i = c.self.inside in
    let k = checked_blocks i.first i.held.entries i.cache.entries (non_zero_usize_get i.capacity) in
    rw c.put_all_back.ensures.empty (are_let_go k c.put_all_back.new.cache.entries c.self.invariant (rw c.resize.ensures at c.put_all_back.ensures.part))

pub returns : goal.returns
returns g c =
    let i = c.self.inside in
    let k = checked_blocks i.first i.held.entries i.cache.entries (non_zero_usize_get i.capacity) in
    rw c.put_all_back.ensures.empty (lets_go c.take_up-refused.result c.args.self.now k c.put_all_back.new.cache.entries
    (rw (← c.self.view_is) at c.take_up-refused.ensures.taken) (rw (← c.self.view_is) at c.take_up-refused.ensures.err) (rw c.resize.ensures at c.put_all_back.ensures.put) (rw c.resize.ensures at c.put_all_back.ensures.part)
    (rw c.resize.ensures at c.put_all_back.ensures.few))
