use Rattle.std.proofs.Common.{subst}
use Rattle.itable.specs.declared.inode.Kind.{Kind}
use Rattle.tree_parts.specs.Asked.{Lacks}
use Rattle.tree_parts.specs.Acts.{IsAfterHeld}
use Rattle.tree_parts.proofs.ReadingLaws.{as_table_lacks}
use Rattle.tree_parts.proofs.reading.table_text.Goals as goal

pub returns-in-Err-clause-missing : goal.returns-in-Err-clause-missing
returns-in-Err-clause-missing g c =
    let held = g.B.Blocks.held c.args.blocks.now in
    let of_file = subst (λ (k : Kind). Lacks held (IsAfterHeld held k c.args.digest) c.in-Err.error) c.requires.file c.in-Err.ensures.missing in
    rw c.as_table.ensures (as_table_lacks held c.args.digest c.args.inode.now c.in-Err.error c.requires.held of_file)
