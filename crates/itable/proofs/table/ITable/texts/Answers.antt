use Rattle.std.proofs.Common.{◌∷◌, ◌++◌, [], ℕ, List, map, ap, ◌∙◌}
use Rattle.std.proofs.lemmas.List.{map-append}
use Rattle.std.specs.Prelude.{filter_map}
use Rattle.std.specs.List.{range_with_len}
use Rattle.std.specs.Vec.{vec_items}
use Rattle.itable.specs.ITable.{ITable, new_chunk}
use Rattle.itable.proofs.NewTexts.{texts_told}
use Rattle.itable.proofs.table.ITable.texts.Goals as goal

pub returns-clause-texts : goal.returns-clause-texts
returns-clause-texts g c =
    let t = c.args.self.now in
    let chunks = map vec_items c.in_ok-texts.texts.items in
    let told = c.in_ok-texts.ensures ∙ ap (λ (e : ITable). filter_map (new_chunk e t) (range_with_len 0 64)) c.empty.ensures.same in
    let grown = ap (map vec_items) c.in_ok-push.ensures.items ∙ map-append vec_items c.in_ok-texts.texts.items (c.in_ok-root_text.field-0 ∷ []) ∙ ap (λ (text : List ℕ). chunks ++ text ∷ []) c.in_ok-root_text.ensures.text in
    texts_told t c.self.inside.principal chunks (map vec_items c.push.new.self.items) told grown
