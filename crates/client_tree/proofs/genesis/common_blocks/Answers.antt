use Rattle.std.proofs.Common.{[]}
use Rattle.itable.specs.Inode.{inode}
use Rattle.directory.specs.Directory.{directory}
use Rattle.client_tree.specs.Held.{keeping_all}
use Rattle.client_tree.specs.Genesis.{common_texts, root_inode, table_inode, table_text}
use Rattle.client_tree.proofs.Firsts.{kept_after}
use Rattle.client_tree.proofs.genesis.common_blocks.Goals as goal

pub returns : goal.returns
unfolding common_texts keeping_all
returns g c =
    let key = c.args.key.now in
    let one = kept_after _ _ [] _ (table_text key) c.in_ok-keep.ensures.kept c.empty-blocks.ensures c.in_ok-table_text.ensures.text in
    let two = kept_after _ _ _ _ (inode.spell (table_inode key)) c.in_ok-keep-2.ensures.kept one c.in_ok-table_inode_text.ensures in
    let three = kept_after _ _ _ _ (directory.spell []) c.in_ok-keep-3.ensures.kept two c.in_ok-root_text.ensures in
    kept_after _ _ _ _ (inode.spell root_inode) c.in_ok-keep-4.ensures.kept three c.in_ok-root_inode_text.ensures
