use Rattle.std.proofs.Common.{◌≡◌, Option, Some, true, false, refl, sym, ap, ◌∙◌, rules}
use Rattle.std.specs.Option.{option_map_or}
use Rattle.itable.specs.Inode.{Inode}
use Rattle.tree_parts.specs.Blocks.{inode_at}
use Rattle.tree_parts.specs.Spot.{takes_inode}
use Rattle.tree_parts.proofs.ReadingLaws.{inode_taken, lacks_inode}
use Rattle.tree_parts.proofs.reading.read_inode.Goals.{in_default-via-in-Some+else-takes_inode, in_default-via-in_default}
use Rattle.tree_parts.proofs.reading.read_inode.Goals as goal

pub returns-in_default-clause-missing : goal.returns-in_default-clause-missing
returns-in_default-clause-missing g c =
    let p = c.args.principal in
    let i = c.args.i_number in
    let taken = λ (found : Option Inode). option_map_or (takes_inode p i) found false in
    let none : taken c.in_ok-inode.field-0 ≡ false =
    elim c.in_default.branch [
      | in_default-via-in-Some+else-takes_inode w ↦ ap taken w.in-Some.is ∙ sym w.takes_inode.ensures ∙ w.if-takes_inode.false
      | in_default-via-in_default w ↦ ap taken w.in_default.is
    ] in
    ((refl, refl), lacks_inode (g.B.Blocks.held c.args.blocks.now) p i c.args.digest (ap taken (sym c.in_ok-inode.ensures.found) ∙ none))

pub returns-in-Some-clause-taken : goal.returns-in-Some-clause-taken
returns-in-Some-clause-taken g c =
    let held = g.B.Blocks.held c.args.blocks.now in
    let at : inode_at held c.args.digest ≡ Some c.in-Some.inode = sym c.in_ok-inode.ensures.found ∙ c.in-Some.is in
    let taken : takes_inode c.args.principal c.args.i_number c.in-Some.inode ≡ true = search rules in
    inode_taken held c.args.principal c.args.i_number c.args.digest c.in-Some.inode at taken
