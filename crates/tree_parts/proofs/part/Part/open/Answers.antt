use Rattle.std.proofs.Common.{sym, ap, ◌∙◌}
use Rattle.std.specs.Option.{option_map}
use Rattle.itable.specs.ITable.{ITable}
use Rattle.tree_parts.specs.Blocks.{root_at}
use Rattle.tree_parts.specs.Spot.{lacks}
use Rattle.tree_parts.specs.declared.spot.Spot.TheVariants as spot
use Rattle.tree_parts.specs.Part.{Laid, Part, handle}
use Rattle.tree_parts.proofs.PartLaws.{is_part_of}
use Rattle.tree_parts.proofs.LoadLaws.{first_read, first_slots}
use Rattle.tree_parts.proofs.part.Part.open.Goals as goal

pub invariant_of-result : goal.invariant_of-result
invariant_of-result g c = is_part_of c.of_root-before.result c.in_ok-table.table c.new.result.items c.in_ok-table.ensures c.new.ensures.items

pub returns-clause-slots : goal.returns-clause-slots
returns-clause-slots g c = λ reads agrees i.
    let blocks = g.B.Blocks.held c.args.blocks.now in
    let r = c.in_ok-root.root in
    let part : Part = record { before = c.of_root-before.result; table = c.in_ok-table.table; opened = c.new.result.items } in
    let bare = c.in_ok-table.ensures ∙ c.of_root-before.ensures.same in
    let stands = c.of_root-before.ensures.handle ∙ c.in_ok-root.ensures.hashed in
    let whose = ap (λ (t : ITable). t.principal) bare ∙ c.in_ok-root.ensures.principal in
    first_slots blocks r part (ap (λ h. root_at blocks h) stands ∙ c.in_ok-root.ensures.found) (sym (ap (λ (t : ITable). t.principal) bare)) (ap (λ (t : ITable). t.pairs) bare) (ap (λ (t : ITable). t.unloaded) bare) c.new.ensures.items reads agrees i
    ∙ ap (λ p. option_map Laid (reads.inode p (handle part) i)) whose
    ∙ ap (λ h. option_map Laid (reads.inode c.args.principal h i)) stands

pub returns-clause-read : goal.returns-clause-read
returns-clause-read g c =
    let blocks = g.B.Blocks.held c.args.blocks.now in
    let r = c.in_ok-root.root in
    let part : Part = record { before = c.of_root-before.result; table = c.in_ok-table.table; opened = c.new.result.items } in
    let copied = c.in_ok-table.ensures in
    let bare = copied ∙ c.of_root-before.ensures.same in
    let stands = c.of_root-before.ensures.handle ∙ c.in_ok-root.ensures.hashed in
    let whose = ap (λ (t : ITable). t.principal) bare ∙ c.in_ok-root.ensures.principal in
    first_read blocks r part (ap (λ h. root_at blocks h) stands ∙ c.in_ok-root.ensures.found) (sym (ap (λ (t : ITable). t.principal) bare)) (ap (λ (t : ITable). t.pairs) bare) (ap (λ (t : ITable). t.unloaded) bare) c.new.ensures.items (sym copied) c.of_root-before.ensures.listed
    (ap (λ p. lacks blocks (handle part) (spot.Root p)) whose ∙ ap (λ h. lacks blocks h (spot.Root c.args.principal)) stands ∙ c.in_ok-root.ensures.taken)
