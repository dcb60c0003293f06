use Rattle.std.proofs.Common.{◌≡◌, ◌+◌, Bool, true, false, drop, sym, ap, ◌∙◌}
use Rattle.std.specs.Prelude.{◌&&◌}
use Rattle.client_verify.specs.Laid.{are_blocks_laid}
use Rattle.client_verify.proofs.LaidLaws.{next_laid, none_left}
use Rattle.client_verify.proofs.laid.has_blocks.Goals as goal

pub returns-then-not-has_block : goal.returns-then-not-has_block
returns-then-not-has_block g c =
    let n = c.args.inode.now in
    let k = c.loop-place.place in
    let laid = c.args.laid.now in
    let inside = rw c.blocks-digest-items.ensures at c.loop-place-test.true in
    let at = rw c.blocks-digest-items.ensures at c.digest-item.is in
    let told = rw c.size.ensures at c.has_block.ensures in
    let next = next_laid laid n.size k c.digest-item.result n.blocks c.has_block.result inside at told in
    let lacks : c.has_block.result ≡ false = c.if-not-has_block.true in
    sym (sym c.loop-place.invariant ∙ next ∙ ap (λ (b : Bool). b && are_blocks_laid laid n.size (k + 1) (drop (k + 1) n.blocks)) lacks)

pub loop-place-preserved : goal.loop-place-preserved
loop-place-preserved g c =
    let n = c.args.inode.now in
    let k = c.loop-place.place in
    let laid = c.args.laid.now in
    let inside = rw c.blocks-digest-items.ensures at c.loop-place-test.true in
    let at = rw c.blocks-digest-items.ensures at c.digest-item.is in
    let told = rw c.size.ensures at c.has_block.ensures in
    let next = next_laid laid n.size k c.digest-item.result n.blocks c.has_block.result inside at told in
    let has : c.has_block.result ≡ true = c.if-not-has_block.false in
    sym (next ∙ ap (λ (b : Bool). b && are_blocks_laid laid n.size (k + 1) (drop (k + 1) n.blocks)) has) ∙ c.loop-place.invariant

pub returns : goal.returns
returns g c =
    let past = rw c.blocks-digest-items.ensures at c.loop-place-test.false in
    sym (none_left c.args.laid.now c.args.inode.now.size c.loop-place.place c.args.inode.now.blocks past) ∙ c.loop-place.invariant
