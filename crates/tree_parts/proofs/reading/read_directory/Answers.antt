use Rattle.std.proofs.Common.{◌≡◌, Some, ◌+◌, ◌-◌, ◌<◌, length, refl, sym, ◌∙◌, arith}
use Rattle.std.specs.Result.{result_ok}
use Rattle.layout.specs.Format.{whole}
use Rattle.directory.specs.Directory.{directory}
use Rattle.itable.specs.declared.inode.Kind.TheVariants as kinds
use Rattle.tree_parts.specs.declared.spot.Spot.TheVariants as spot
use Rattle.tree_parts.proofs.TakenLaws.{directory_taken}
use Rattle.tree_parts.proofs.ReadingLaws.{front_joined, is_after_held, lacks_last, after_is_block, some_block, few_blocks, text_read}
use Rattle.tree_parts.proofs.reading.read_directory.Goals as goal

pub overflow_sub-last : goal.overflow_sub-last
overflow_sub-last g c = rw c.blocks-blocks.ensures (some_block c.args.inode.now c.kind-kind.ensures.fits c.requires.directory)

pub bounds-blocks-last : goal.bounds-blocks-last
bounds-blocks-last g c = rw c.blocks-blocks.ensures (omega (arith, some_block c.args.inode.now c.kind-kind.ensures.fits c.requires.directory))

pub overflow_cast-result : goal.overflow_cast-result
overflow_cast-result g c = rw c.blocks-blocks.ensures (omega (arith, few_blocks c.args.inode.now c.kind-kind.ensures.fits))

pub returns-clause-missing : goal.returns-clause-missing
returns-clause-missing g c =
    let n = c.args.inode.now in
    let held = g.B.Blocks.held c.args.blocks.now in
    let fits = c.kind-kind.ensures.fits in
    let k = length n.blocks - 1 in
    let block = c.index-blocks-last.result in
    let some = some_block n fits c.requires.directory in
    let inside : k < length n.blocks = omega (arith, some) in
    let last : k + 1 ≡ length n.blocks = omega (arith, some) in
    let at = rw c.blocks-blocks.ensures at c.index-blocks-last.is in
    let none = sym (c.in_ok-directory.ensures.found) ∙ c.in_default.is in
    rw c.blocks-blocks.ensures (
      after_is_block held kinds.Directory c.args.digest block (spot.Directory c.args.digest k)
          (k, refl, is_after_held held c.args.digest n kinds.Directory k block c.requires.held c.requires.directory inside at (front_joined held n.blocks k block c.in_ok-text.text.items last at c.in_ok-text.ensures.joined)),
      lacks_last held c.args.digest n k block c.in_ok-text.text.items fits c.requires.held last at c.in_ok-text.ensures.joined (rw c.deref.ensures.value at none),
    )

pub returns-in-Some-clause-found : goal.returns-in-Some-clause-found
returns-in-Some-clause-found g c =
    let held = g.B.Blocks.held c.args.blocks.now in
    let text = c.in_ok-text.text.items in
    let read : Some c.in-Some.directory ≡ result_ok (whole directory text) = rw c.deref.ensures.value at (sym c.in-Some.is ∙ c.in_ok-directory.ensures.found) in
    text_read directory held c.args.inode.now text (Some c.in-Some.directory) c.in_ok-text.ensures.joined c.in_ok-text.ensures.size read

pub returns-in-Some-clause-taken : goal.returns-in-Some-clause-taken
returns-in-Some-clause-taken g c =
    let held = g.B.Blocks.held c.args.blocks.now in
    let text = c.in_ok-text.text.items in
    let read : result_ok (whole directory text) ≡ Some c.in-Some.directory = rw c.deref.ensures.value at (sym c.in_ok-directory.ensures.found ∙ c.in-Some.is) in
    directory_taken held c.args.digest text c.args.inode.now c.in-Some.directory c.text_of.ensures.fits c.requires.held c.requires.directory c.in_ok-text.ensures.sized c.in_ok-text.ensures.joined c.in_ok-text.ensures.size read
