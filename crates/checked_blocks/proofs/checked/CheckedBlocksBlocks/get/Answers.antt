use Rattle.std.proofs.Common.{Some, ap, ◌∙◌}
use Rattle.std.specs.Option.{option_copied}
use Rattle.std.specs.NonZero.{non_zero_usize_get}
use Rattle.checked_blocks.specs.CheckedBlocks.{checked_blocks}
use Rattle.checked_blocks.proofs.BlockLaws.{known_first, known_held, known_cached}
use Rattle.checked_blocks.proofs.checked.CheckedBlocksBlocks.get.Goals as goal

pub returns-in-Some-clause-text : goal.returns-in-Some-clause-text
returns-in-Some-clause-text g c =
    let i = c.self.inside in
    let k = checked_blocks i.first i.held.entries i.cache.entries (non_zero_usize_get i.capacity) in
    rw (← c.self.view_is) (known_first k c.args.digest c.in-Some.text.now c.in-Some.ensures.text)

pub returns-in-Some-get-clause-text : goal.returns-in-Some-get-clause-text
returns-in-Some-get-clause-text g c =
    let i = c.self.inside in
    let k = checked_blocks i.first i.held.entries i.cache.entries (non_zero_usize_get i.capacity) in
    rw (← c.self.view_is) (known_held k c.args.digest c.text.result.now c.in-None.ensures.text (ap Some c.text.ensures ∙ c.in-Some-get.ensures.value))

pub returns-in-None-get-clause-text : goal.returns-in-None-get-clause-text
returns-in-None-get-clause-text g c =
    let i = c.self.inside in
    let k = checked_blocks i.first i.held.entries i.cache.entries (non_zero_usize_get i.capacity) in
    rw (← c.self.view_is) (known_cached k c.args.digest (option_copied c.read.result) c.in-None.ensures.text c.in-None-get.ensures.value (rw (← c.self.view_is) at c.read.ensures))
