use Rattle.std.proofs.Common.{◌≡◌, ◌∙◌, None, Some, false, sym, ap, rules}
use Rattle.std.specs.Prelude.{◌||◌, ◌==◌, is_some, length}
use Rattle.std.specs.Option.{option_map_or}
use Rattle.update_cert.specs.World.{is_removable}
use Rattle.tree_parts.specs.Part.{opened_at}
use Rattle.tree_parts.specs.Spot.{is_of_file}
use Rattle.tree_parts.proofs.PartLaws.{opened, removable_told}
use Rattle.tree_parts.proofs.part.Part.is_removable.Goals as goal

pub returns-in-Some-clause-removable : goal.returns-in-Some-clause-removable
returns-in-Some-clause-removable g c = λ reads agrees.
    let part = c.args.self.now in
    let i = c.args.i_number in
    let es = c.in-Some.directory.now in
    let is : c.is_empty.result ≡ (length es == 0) = search rules in
    let there : opened_at part i ≡ Some es = search rules in
    is ∙ sym (ap is_removable (opened reads part i es there (c.opened_at.ensures.mapped (ap is_some there))))

pub returns-clause-removable : goal.returns-clause-removable
returns-clause-removable g c = λ reads agrees.
    let part = c.args.self.now in
    let i = c.args.i_number in
    let is : c.is_some_and.result ≡ option_map_or (λ n. is_of_file n.kind || (n.size == 6)) c.in_ok-inode.inode false = search rules in
    let none : opened_at part i ≡ None = search rules in
    rw is (removable_told (g.B.Blocks.held c.args.blocks.now) reads agrees part i c.in_ok-inode.inode none c.in_ok-inode.ensures.found)
