use Rattle.std.proofs.Common.{◌≡◌, ℕ, List, Option, false, refl, sym, ap, ◌∙◌, length, take, arith}
use Rattle.std.specs.Prelude.{◌==◌}
use Rattle.std.proofs.lemmas.Bool.{ne_eqb}
use Rattle.std.specs.Option.{option_copied, option_map_or}
use Rattle.tree_parts.specs.Blocks.{joined}
use Rattle.tree_parts.specs.Spot.{size_of_block}
use Rattle.tree_parts.proofs.ReadingLaws.{is_after_held, lacks_block}
use Rattle.tree_parts.proofs.TakenLaws.{all_sized, all_whole, sized_next, some_whole, whole_first, whole_next}
use Rattle.tree_parts.proofs.reading.find_blocks.Goals.{in_default-via-in-Some+else-bytes-size, in_default-via-in_default}
use Rattle.tree_parts.proofs.reading.find_blocks.Goals as goal

pub loop-place-init : goal.loop-place-init
loop-place-init g c = record {
  whole = whole_first (g.B.Blocks.held c.args.blocks.now) c.args.inode.now;
  sized = λ k block lt here. absurd (omega (arith, lt));
}

pub returns-in_default-clause-missing : goal.returns-in_default-clause-missing
returns-in_default-clause-missing g c =
    let n = c.args.inode.now in
    let k = c.loop-place.place in
    let block = c.block-item.result in
    let held = g.B.Blocks.held c.args.blocks.now in
    let of_size = λ (found : Option (List ℕ)). option_map_or (λ bytes. length bytes == size_of_block n.size k) found false in
    let size = c.size_of_block-size.ensures ∙ ap (λ (bytes : ℕ). size_of_block bytes k) c.size.ensures in
    let none : of_size (held block) ≡ false =
    elim c.in_default.branch [
      | in_default-via-in-Some+else-bytes-size w ↦ ap of_size (sym c.get.ensures.text ∙ ap option_copied w.in-Some.is) ∙ rw (← size) (ne_eqb _ _ w.if-bytes-size.false)
      | in_default-via-in_default w ↦ ap of_size (sym c.get.ensures.text ∙ ap option_copied w.in_default.is)
    ] in
    let inside = rw c.blocks-block-items.ensures at c.loop-place-test.true in
    let at = rw c.blocks-block-items.ensures at c.block-item.is in
    let front = some_whole (joined held (take k n.blocks)) _ c.loop-place.invariant.whole in
    rw (c.of_block-spot.ensures, c.kind-kind.ensures.same) ((k, refl, is_after_held held c.args.digest n n.kind k block c.requires refl inside at front), lacks_block held c.args.digest n k n.kind block c.requires none)

pub loop-place-preserved : goal.loop-place-preserved
loop-place-preserved g c =
    let n = c.args.inode.now in
    let k = c.loop-place.place in
    let bytes = c.in-Some.bytes.now in
    let texts = g.B.Blocks.held c.args.blocks.now in
    let held = sym c.get.ensures.text ∙ ap option_copied c.in-Some.is in
    let inside = rw c.blocks-block-items.ensures at c.loop-place-test.true in
    let at = rw c.blocks-block-items.ensures at c.block-item.is in
    let size = c.if-bytes-size.true ∙ c.size_of_block-size.ensures ∙ ap (λ (bytes : ℕ). size_of_block bytes k) c.size.ensures in
    record {
      whole = whole_next texts n k c.block-item.result bytes inside at held size c.loop-place.invariant.whole;
      sized = sized_next texts n k c.block-item.result bytes inside at held size c.loop-place.invariant.sized;
    }

pub returns-clause-whole : goal.returns-clause-whole
returns-clause-whole g c =
    let past = rw c.blocks-block-items.ensures at c.loop-place-test.false in
    all_whole (g.B.Blocks.held c.args.blocks.now) c.args.inode.now c.loop-place.place c.kind-kind.ensures.fits past c.loop-place.invariant.whole

pub returns-clause-sized : goal.returns-clause-sized
returns-clause-sized g c =
    let past = rw c.blocks-block-items.ensures at c.loop-place-test.false in
    all_sized (g.B.Blocks.held c.args.blocks.now) c.args.inode.now c.loop-place.place past c.loop-place.invariant.sized
