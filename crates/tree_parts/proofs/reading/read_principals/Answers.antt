use Rattle.std.proofs.Common.{◌≡◌, false}
use Rattle.std.proofs.lemmas.Result.{IfOk-weaker}
use Rattle.tree_parts.specs.Spot.{lacks}
use Rattle.tree_parts.specs.declared.spot.Spot.TheVariants as spot
use Rattle.tree_parts.proofs.Contents.{file_is}
use Rattle.tree_parts.proofs.ReadingLaws.{table_inode}
use Rattle.tree_parts.proofs.reading.read_principals.Goals as goal

pub returns-clause-reads : goal.returns-clause-reads
returns-clause-reads g c = λ reads agrees.
    let held = g.B.Blocks.held c.args.blocks.now in
    let n = c.in_ok-inode.inode in
    let there : lacks held c.args.digest (spot.Inode 0 1) ≡ false = rw (c.from-superuser.ensures, c.superuser.ensures, c.table.ensures) at c.in_ok-inode.ensures.taken in
    let of_table = table_inode held c.args.digest n c.in_ok-inode.ensures.found there in
    IfOk-weaker c.read_table.result _ _ (λ t over. file_is held reads c.args.digest _ n agrees c.in_ok-inode.ensures.found of_table.0 over) c.read_table.ensures.file
