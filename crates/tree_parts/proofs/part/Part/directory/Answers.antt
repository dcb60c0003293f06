use Rattle.std.proofs.Common.{sym, ◌∙◌}
use Rattle.itable.specs.ITable.{digest_at}
use Rattle.tree_parts.proofs.PartLaws.{directory_listed, file_unlisted}
use Rattle.tree_parts.proofs.part.Part.directory.Goals as goal

pub returns-clause-found : goal.returns-clause-found
returns-clause-found g c = λ reads agrees.
    let d = c.in-Some.digest in
    let n = c.in_ok-inode.inode in
    let table = c.self.inside.table in
    rw (← c.self.view_is) (directory_listed (g.B.Blocks.held c.args.blocks.now) reads agrees d n (digest_at table c.args.i_number) c.in_ok-directory-in-Directory.directory (sym c.get.ensures.found ∙ c.in-Some.is) c.in_ok-inode.ensures.found (sym c.kind.ensures.same ∙ c.in-Directory.is) c.in_ok-directory-in-Directory.ensures.found)

pub returns-in-File-clause-found : goal.returns-in-File-clause-found
returns-in-File-clause-found g c = λ reads agrees.
    let d = c.in-Some.digest in
    let n = c.in_ok-inode.inode in
    let table = c.self.inside.table in
    rw (← c.self.view_is) (file_unlisted (g.B.Blocks.held c.args.blocks.now) reads agrees d n (digest_at table c.args.i_number) (sym c.get.ensures.found ∙ c.in-Some.is) c.in_ok-inode.ensures.found (sym c.kind.ensures.same ∙ c.in-File.is))
