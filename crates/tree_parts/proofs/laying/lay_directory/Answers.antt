use Rattle.std.proofs.Common.{◌≡◌, subst, ◌∙◌, ap}
use Rattle.std.specs.List.{concat}
use Rattle.itable.specs.Inode.{inode}
use Rattle.itable.specs.File.{blocks_of, inode_over}
use Rattle.itable.specs.declared.inode.Kind.TheVariants as kinds
use Rattle.directory.specs.Directory.{directory}
use Rattle.tree_parts.specs.Slots.{directory_inode}
use Rattle.tree_parts.proofs.Contents.{read_back}
use Rattle.tree_parts.proofs.laying.lay_directory.Goals as goal

pub returns-clause-read_back : goal.returns-clause-read_back
returns-clause-read_back g c =
    let entries = c.args.directory.now in
    let text = c.deref.ensures.value ∙ c.in_ok-text.ensures in
    let is : c.in_ok-inode.inode ≡ directory_inode entries = c.in_ok-inode.ensures ∙ ap (inode_over kinds.Directory) text in
    let all : concat (blocks_of (directory.spell entries)) ≡ directory.spell entries = rw (c.deref-2.ensures.value, c.in_ok-text.ensures) at c.in_ok-blocks.ensures.joined in
    read_back entries c.entries-entries.ensures.fits (subst inode.Fits is c.kind-kind.ensures.fits) all
