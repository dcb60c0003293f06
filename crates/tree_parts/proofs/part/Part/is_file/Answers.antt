use Rattle.std.proofs.Common.{◌≡◌, None, false, rules}
use Rattle.std.specs.Option.{option_map_or}
use Rattle.tree_parts.specs.Part.{opened_at}
use Rattle.tree_parts.specs.Spot.{is_of_file}
use Rattle.tree_parts.proofs.PartLaws.{file_told}
use Rattle.tree_parts.proofs.part.Part.is_file.Goals as goal

pub returns-clause-file : goal.returns-clause-file
returns-clause-file g c = λ reads agrees.
    let part = c.args.self.now in
    let i = c.args.i_number in
    let is : c.is_some_and.result ≡ option_map_or (λ n. is_of_file n.kind) c.in_ok-inode.inode false = search rules in
    let none : opened_at part i ≡ None = search rules in
    rw is (file_told (g.B.Blocks.held c.args.blocks.now) reads agrees part i c.in_ok-inode.inode none c.in_ok-inode.ensures.found)
