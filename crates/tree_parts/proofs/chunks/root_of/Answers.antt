use Rattle.std.proofs.Common.{◌≡◌, Option, Some, true, false, refl, sym, ap, ◌∙◌, rules}
use Rattle.std.specs.Option.{option_map_or}
use Rattle.itable.specs.Root.{Root}
use Rattle.tree_parts.specs.Blocks.{root_at}
use Rattle.tree_parts.specs.Spot.{takes_root}
use Rattle.tree_parts.proofs.ChunkLaws.{root_missing, root_of_it, root_taken}
use Rattle.tree_parts.proofs.chunks.root_of.Goals.{in_default-via-in-Some+else-takes_root, in_default-via-in_default}
use Rattle.tree_parts.proofs.chunks.root_of.Goals as goal

pub returns-in_default-clause-missing : goal.returns-in_default-clause-missing
returns-in_default-clause-missing g c =
    let held = g.B.Blocks.held c.args.blocks.now in
    let taken = λ (found : Option Root). option_map_or (takes_root c.args.principal) found false in
    let none : taken c.in_ok-root.field-0 ≡ false =
    elim c.in_default.branch [
      | in_default-via-in-Some+else-takes_root w ↦ ap taken w.in-Some.is ∙ sym w.takes_root.ensures ∙ w.if-takes_root.false
      | in_default-via-in_default w ↦ ap taken w.in_default.is
    ] in
    ((refl, refl), root_missing held c.args.principal c.args.handle (ap taken (sym c.in_ok-root.ensures.found) ∙ none))

pub returns-in-Some-clause-principal : goal.returns-in-Some-clause-principal
returns-in-Some-clause-principal g c =
    let taken : takes_root c.args.principal c.in-Some.root ≡ true = search rules in
    root_of_it c.args.principal c.in-Some.root taken

pub returns-in-Some-clause-taken : goal.returns-in-Some-clause-taken
returns-in-Some-clause-taken g c =
    let held = g.B.Blocks.held c.args.blocks.now in
    let at : root_at held c.args.handle ≡ Some c.in-Some.root = sym c.in_ok-root.ensures.found ∙ c.in-Some.is in
    let taken : takes_root c.args.principal c.in-Some.root ≡ true = search rules in
    root_taken held c.args.principal c.args.handle c.in-Some.root at taken
