use Rattle.std.proofs.Common.{rules}
use Rattle.checked_blocks.proofs.BlockLaws.{are_first}
use Rattle.checked_blocks.proofs.checked.CheckedBlocks.new.Goals as goal

pub invariant_of-result : goal.invariant_of-result
invariant_of-result g c =
    rw (c.new-2.ensures.empty, c.in_ok-cache.ensures) (are_first c.args.first _ c.type_invariant.ensures (search rules))
