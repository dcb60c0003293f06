use Rattle.std.proofs.Common.{List, ℕ, length, subst, sym}
use Rattle.itable.specs.Inode.{inode}
use Rattle.itable.proofs.FileLaws.{inode_fits}
use Rattle.itable.proofs.inode.Inode.over.Goals as goal

pub invariant_of-result : goal.invariant_of-result
invariant_of-result g c =
    subst (λ (ds : List (List ℕ)). inode.Fits (record { kind = c.args.kind; size = length c.args.bytes.now; blocks = ds })) (sym c.in_ok-blocks.ensures)
    (inode_fits c.args.kind c.args.bytes.now c.requires.fits c.requires.few)
