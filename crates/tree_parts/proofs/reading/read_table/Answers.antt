use Rattle.std.proofs.Common.{◌≡◌, Some, ◌+◌, ◌-◌, ◌<◌, length, refl, sym, ◌∙◌, arith}
use Rattle.std.specs.Result.{result_ok}
use Rattle.layout.specs.Format.{whole}
use Rattle.principals.specs.TableText.{table}
use Rattle.itable.specs.declared.inode.Kind.TheVariants as kinds
use Rattle.tree_parts.proofs.TakenLaws.{principals_taken}
use Rattle.tree_parts.proofs.ReadingLaws.{is_after_held, front_joined, table_lacks_last, table_inode, text_read, few_blocks, some_block_of}
use Rattle.tree_parts.proofs.reading.read_table.Goals as goal

pub overflow_sub-end : goal.overflow_sub-end
overflow_sub-end g c = rw c.blocks-blocks.ensures (some_block_of c.args.inode.now c.kind-kind.ensures.fits (table_inode (g.B.Blocks.held c.args.blocks.now) c.args.digest c.args.inode.now c.requires.held c.requires.there).1)

pub bounds-blocks-end : goal.bounds-blocks-end
bounds-blocks-end g c = rw c.blocks-blocks.ensures (omega (arith, some_block_of c.args.inode.now c.kind-kind.ensures.fits (table_inode (g.B.Blocks.held c.args.blocks.now) c.args.digest c.args.inode.now c.requires.held c.requires.there).1))

pub overflow_cast-result : goal.overflow_cast-result
overflow_cast-result g c = rw c.blocks-blocks.ensures (omega (arith, few_blocks c.args.inode.now c.kind-kind.ensures.fits))

pub returns-clause-missing : goal.returns-clause-missing
returns-clause-missing g c =
    let n = c.args.inode.now in
    let held = g.B.Blocks.held c.args.blocks.now in
    let fits = c.kind-kind.ensures.fits in
    let of_table = table_inode held c.args.digest n c.requires.held c.requires.there in
    let k = length n.blocks - 1 in
    let block = c.index-blocks-end.result in
    let some = some_block_of n fits of_table.1 in
    let inside : k < length n.blocks = omega (arith, some) in
    let last : k + 1 ≡ length n.blocks = omega (arith, some) in
    let at = rw c.blocks-blocks.ensures at c.index-blocks-end.is in
    let none = sym (c.in_ok-table.ensures.found) ∙ c.in_default.is in
    rw c.blocks-blocks.ensures
    ((k, refl, is_after_held held c.args.digest n kinds.File k block c.requires.held of_table.0 inside at (front_joined held n.blocks k block c.in_ok-text.text.items last at c.in_ok-text.ensures.joined)), table_lacks_last held c.args.digest n k block c.in_ok-text.text.items fits c.requires.held last at c.in_ok-text.ensures.joined (rw c.deref.ensures.value at none))

pub returns-in-Some-clause-found : goal.returns-in-Some-clause-found
returns-in-Some-clause-found g c =
    let held = g.B.Blocks.held c.args.blocks.now in
    let text = c.in_ok-text.text.items in
    let read : Some c.in-Some.table ≡ result_ok (whole table text) = rw c.deref.ensures.value at (sym c.in-Some.is ∙ c.in_ok-table.ensures.found) in
    text_read table held c.args.inode.now text (Some c.in-Some.table) c.in_ok-text.ensures.joined c.in_ok-text.ensures.size read

pub returns-in-Some-clause-taken : goal.returns-in-Some-clause-taken
returns-in-Some-clause-taken g c =
    let held = g.B.Blocks.held c.args.blocks.now in
    let text = c.in_ok-text.text.items in
    let read : result_ok (whole table text) ≡ Some c.in-Some.table = rw c.deref.ensures.value at (sym c.in_ok-table.ensures.found ∙ c.in-Some.is) in
    let of_table = table_inode held c.args.digest c.args.inode.now c.requires.held c.requires.there in
    principals_taken held c.args.digest text c.args.inode.now c.in-Some.table c.table_text.ensures.fits c.requires.held of_table.0 c.requires.there c.in_ok-text.ensures.sized c.in_ok-text.ensures.joined c.in_ok-text.ensures.size read

pub table_text-requires-clause-file : goal.table_text-requires-clause-file
table_text-requires-clause-file g c = (table_inode (g.B.Blocks.held c.args.blocks.now) c.args.digest c.args.inode.now c.requires.held c.requires.there).0
