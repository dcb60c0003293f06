use Rattle.std.proofs.Common.{◌∙◌, List, ap}
use Rattle.std.specs.Ordering.{nat_cmp}
use Rattle.layout.specs.Ascending.{row_at}
use Rattle.itable.specs.declared.root.ListedChunk.{ListedChunk}
use Rattle.itable.specs.Root.{number_of}
use Rattle.itable.specs.ITable.{ITable, unloaded_at}
use Rattle.itable.proofs.ListedLaws.{found_number}
use Rattle.itable.proofs.table.ITable.unloaded.Goals as goal

pub returns-clause-number : goal.returns-clause-number
returns-clause-number g c =
    let t : ITable = record { principal = c.self.inside.principal; pairs = c.self.inside.pairs.items; unloaded = c.self.inside.unloaded.items } in
    let found = c.listed_at.ensures ∙ ap (λ (xs : List ListedChunk). row_at nat_cmp number_of xs c.of.result) c.deref.ensures.value ∙ ap (unloaded_at t) c.of.ensures in
    found_number t c.listed_at.result _ c.self.invariant.is_table found
