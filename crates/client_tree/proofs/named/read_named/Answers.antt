use Rattle.client_tree.proofs.NamedLaws.{lacks_chunk, named_read}
use Rattle.client_tree.proofs.OpenedLaws.{handed_on}
use Rattle.tree_parts.specs.Asked.{Lacks}
use Rattle.client_tree.specs.Principals.{IsOfNamed}
use Rattle.client_tree.proofs.named.read_named.Goals as goal

pub returns-in_err-inode-clause-missing : goal.returns-in_err-inode-clause-missing
returns-in_err-inode-clause-missing g c =
    let held = g.B.Blocks.held c.args.blocks.now in
    let e = c.in_err-inode.field-0.0 in
    handed_on c.from_residual.result e (Lacks held (IsOfNamed held c.args.handle)) c.from_residual.ensures.1 (lacks_chunk held c.args.handle e c.in_err-inode.ensures.missing)

pub returns-clause-named : goal.returns-clause-named
returns-clause-named g c =
    let held = g.B.Blocks.held c.args.blocks.now in
    let is = c.read_principals.ensures in
    named_read held c.args.handle c.in_ok-inode.inode c.read_principals.result c.in_ok-inode.ensures.taken c.in_ok-inode.ensures.told is.fits is.reads is.taken
