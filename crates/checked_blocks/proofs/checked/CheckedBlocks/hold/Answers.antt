use Rattle.std.proofs.Common.{◌≡◌, None, refl, sym}
use Rattle.std.specs.NonZero.{non_zero_usize_get}
use Rattle.layout.specs.Hash.{hash}
use Rattle.checked_blocks.specs.CheckedBlocks.{checked_blocks, holding, known_blocks}
use Rattle.checked_blocks.proofs.BlockLaws.{are_holding, holds_more}
use Rattle.checked_blocks.proofs.MoveLaws.{are_taken, known_taken, takes_held}
use Rattle.checked_blocks.proofs.checked.CheckedBlocks.hold.Goals as goal

pub invariant_of-self-2 : goal.invariant_of-self-2
invariant_of-self-2 g c =
    let i = c.self.inside in
    let k = checked_blocks i.first i.held.entries i.cache.entries (non_zero_usize_get i.capacity) in
    are_taken (holding k c.args.text.items) _ (are_holding k c.args.text.items c.self.invariant) (takes_held k c.args.digest c.args.text.items c.hold_and_move.new.held.entries c.hold_and_move.new.cache.entries k.capacity c.knows-is_known.result c.requires
    (rw c.self.view_is (sym c.knows-is_known.ensures)) (rw c.reserve.ensures.entries at c.hold_and_move.ensures.moved) refl)

pub returns-clause-taken : goal.returns-clause-taken
returns-clause-taken g c =
    let i = c.self.inside in
    let k = checked_blocks i.first i.held.entries i.cache.entries (non_zero_usize_get i.capacity) in
    rw (← c.self.view_is) (takes_held k c.args.digest c.args.text.items c.hold_and_move.new.held.entries c.hold_and_move.new.cache.entries k.capacity c.knows-is_known.result c.requires
    (rw c.self.view_is (sym c.knows-is_known.ensures)) (rw c.reserve.ensures.entries at c.hold_and_move.ensures.moved) refl)

pub returns-clause-known : goal.returns-clause-known
returns-clause-known g c =
    let i = c.self.inside in
    let k = checked_blocks i.first i.held.entries i.cache.entries (non_zero_usize_get i.capacity) in
    rw (← c.self.view_is) (known_taken k _ c.args.text.items (takes_held k c.args.digest c.args.text.items c.hold_and_move.new.held.entries c.hold_and_move.new.cache.entries k.capacity c.knows-is_known.result c.requires
    (rw c.self.view_is (sym c.knows-is_known.ensures)) (rw c.reserve.ensures.entries at c.hold_and_move.ensures.moved) refl))

pub returns-clause-more : goal.returns-clause-more
returns-clause-more g c = λ none.
    let i = c.self.inside in
    let k = checked_blocks i.first i.held.entries i.cache.entries (non_zero_usize_get i.capacity) in
    let is_new : known_blocks k (hash c.args.text.items) ≡ None = rw (← c.requires) (rw c.self.view_is none) in
    rw (← c.self.view_is) (holds_more k _ c.args.text.items (takes_held k c.args.digest c.args.text.items c.hold_and_move.new.held.entries c.hold_and_move.new.cache.entries k.capacity c.knows-is_known.result c.requires
    (rw c.self.view_is (sym c.knows-is_known.ensures)) (rw c.reserve.ensures.entries at c.hold_and_move.ensures.moved) refl) is_new)
