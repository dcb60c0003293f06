use Rattle.std.proofs.Common.{◌≡◌, Some, ap, subst, sym, rules}
use Rattle.update_cert.specs.World.{Content}
use Rattle.itable.specs.declared.inode.Kind.{Kind}
use Rattle.itable.specs.declared.inode.Kind.TheVariants as kinds
use Rattle.tree_parts.specs.Asked.{HasBlocks}
use Rattle.client_tree.proofs.LookLaws.{all_taken}
use Rattle.tree_parts.proofs.Contents.{file_is, directory_is}
use Rattle.client_tree.proofs.contents.read_content.Goals as goal

pub returns-in-File-clause-seen : goal.returns-in-File-clause-seen
returns-in-File-clause-seen g c = λ reads agrees.
    let n = c.in_ok-inode.inode in
    let of_file : n.kind ≡ kinds.File = search rules in
    ap (λ (content : Content). Some content) (sym (file_is (g.B.Blocks.held c.args.blocks.now) reads c.args.digest c.in_ok-bytes-in-File.bytes.items n agrees c.in_ok-inode.ensures.found of_file c.in_ok-bytes-in-File.ensures.found))

pub returns-clause-seen : goal.returns-clause-seen
returns-clause-seen g c = λ reads agrees.
    let n = c.in_ok-inode.inode in
    let of_directory : n.kind ≡ kinds.Directory = search rules in
    ap (λ (content : Content). Some content) (sym (directory_is (g.B.Blocks.held c.args.blocks.now) reads c.args.digest n c.in_ok-directory-in-Directory.directory agrees c.in_ok-inode.ensures.found of_directory c.in_ok-directory-in-Directory.ensures.found))

pub returns-in-File-clause-taken : goal.returns-in-File-clause-taken
returns-in-File-clause-taken g c =
    let held = g.B.Blocks.held c.args.blocks.now in
    let n = c.in_ok-inode.inode in
    let of_file : n.kind ≡ kinds.File = search rules in
    all_taken held c.args.principal c.args.i_number c.args.digest n c.in_ok-inode.ensures.found c.in_ok-inode.ensures.taken
    (subst (λ (k : Kind). HasBlocks held k c.args.digest) (sym of_file) c.in_ok-bytes-in-File.ensures.taken)

pub returns-clause-taken : goal.returns-clause-taken
returns-clause-taken g c =
    let held = g.B.Blocks.held c.args.blocks.now in
    let n = c.in_ok-inode.inode in
    let of_directory : n.kind ≡ kinds.Directory = search rules in
    all_taken held c.args.principal c.args.i_number c.args.digest n c.in_ok-inode.ensures.found c.in_ok-inode.ensures.taken
    (subst (λ (k : Kind). HasBlocks held k c.args.digest) (sym of_directory) c.in_ok-directory-in-Directory.ensures.taken)
