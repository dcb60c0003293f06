use Rattle.std.proofs.Common.{◌≢◌, ◌∙◌, length, Some, sym, ap}
use Rattle.std.specs.Prelude.{filter}
use Rattle.std.proofs.lemmas.Bool.{eqb-true, eq-eqb}
use Rattle.itable.specs.ITable.{ITable, is_in}
use Rattle.itable.proofs.ChunkLaws.{text_none, text_some}
use Rattle.itable.proofs.table.ITable.chunk_text.Goals as goal

pub returns-then-is_empty-clause-text : goal.returns-then-is_empty-clause-text
returns-then-is_empty-clause-text g c =
    let t : ITable = record { principal = c.self.inside.principal; pairs = c.self.inside.pairs.items; unloaded = c.self.inside.unloaded.items } in
    let run = c.run_of-pairs.ensures ∙ ap (filter (is_in c.args.number)) c.deref.ensures.value in
    rw (← c.self.view_is) (sym (text_none t c.args.number c.run_of-pairs.result.now run (eqb-true _ _ (sym c.is_empty.ensures ∙ c.if-is_empty.true))))

pub returns-clause-text : goal.returns-clause-text
returns-clause-text g c =
    let t : ITable = record { principal = c.self.inside.principal; pairs = c.self.inside.pairs.items; unloaded = c.self.inside.unloaded.items } in
    let ps = c.run_of-pairs.result.now in
    let run = c.run_of-pairs.ensures ∙ ap (filter (is_in c.args.number)) c.deref.ensures.value in
    let some : length ps ≢ 0 = λ none. let empty = sym c.if-is_empty.false ∙ c.is_empty.ensures ∙ eq-eqb (length ps) 0 none in absurd cc in
    rw (← c.self.view_is) (ap Some c.in_ok-text.ensures ∙ sym (text_some t c.args.number ps run some))
