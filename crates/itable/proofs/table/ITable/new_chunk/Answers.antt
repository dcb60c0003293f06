use Rattle.std.proofs.Common.{◌≡◌, ◌∙◌, sym, ap}
use Rattle.std.specs.Prelude.{filter}
use Rattle.std.proofs.lemmas.Bool.Decides.{not_from_Decides}
use Rattle.itable.specs.ITable.{ITable, chunk_of, is_in, new_chunk, text_of_chunk}
use Rattle.itable.proofs.NewTexts.{none_new, some_new}
use Rattle.itable.proofs.table.ITable.new_chunk.Goals as goal

pub returns-then-are_same : goal.returns-then-are_same
returns-then-are_same g c =
    let n = c.args.number in
    let before : ITable = record { principal = c.before-2.inside.principal; pairs = c.before-2.inside.pairs.items; unloaded = c.before-2.inside.unloaded.items } in
    let t : ITable = record { principal = c.self.inside.principal; pairs = c.self.inside.pairs.items; unloaded = c.self.inside.unloaded.items } in
    let old : c.run_of.result.now ≡ (chunk_of n before).pairs = c.run_of.ensures ∙ ap (filter (is_in n)) c.deref.ensures.value in
    let new : c.run_of-2.result.now ≡ (chunk_of n t).pairs = c.run_of-2.ensures ∙ ap (filter (is_in n)) c.deref-2.ensures.value in
    let same = sym old ∙ c.are_same.ensures.0 c.if-are_same.true ∙ new in
    rw (← c.before-2.view_is, ← c.self.view_is) (sym (none_new before t n same))

pub returns : goal.returns
returns g c =
    let n = c.args.number in
    let before : ITable = record { principal = c.before-2.inside.principal; pairs = c.before-2.inside.pairs.items; unloaded = c.before-2.inside.unloaded.items } in
    let t : ITable = record { principal = c.self.inside.principal; pairs = c.self.inside.pairs.items; unloaded = c.self.inside.unloaded.items } in
    let old : c.run_of.result.now ≡ (chunk_of n before).pairs = c.run_of.ensures ∙ ap (filter (is_in n)) c.deref.ensures.value in
    let new : c.run_of-2.result.now ≡ (chunk_of n t).pairs = c.run_of-2.ensures ∙ ap (filter (is_in n)) c.deref-2.ensures.value in
    let other : ¬ ((chunk_of n before).pairs ≡ (chunk_of n t).pairs) = λ same. not_from_Decides _ c.are_same.ensures c.if-are_same.false (old ∙ same ∙ sym new) in
    let told = some_new before t n c.before-2.invariant.is_table c.self.invariant.is_table c.get-number.ensures.range other in
    let here : new_chunk c.args.before.now c.args.self.now n ≡ text_of_chunk c.args.self.now n = rw (← c.before-2.view_is, ← c.self.view_is) told in
    rw here c.chunk_text.ensures.text
