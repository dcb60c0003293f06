use Rattle.std.proofs.Common.{◌≡◌, ◌∷◌, ◌++◌, [], ℕ, Bool, true, false, List, map, refl, sym, ap, ◌∙◌}
use Rattle.std.specs.Prelude.{◌&&◌}
use Rattle.std.specs.List.{list_all}
use Rattle.std.specs.Vec.{vec_items}
use Rattle.std.proofs.lemmas.List.Folds.{list_all-append, list_all-map}
use Rattle.tree_parts.specs.Slots.{holds}
use Rattle.tree_parts.proofs.blocks.holds_laid.Goals as goal

and_true : (b : Bool) → b ≡ (b && true)
and_true true = refl
and_true false = refl

both : (held : List ℕ → Bool) (first : Bool) (texts : List (List ℕ)) (last : List ℕ) → first ≡ list_all held texts → (first && held last) ≡ list_all held (texts ++ last ∷ [])
both held first texts last is =
    ap (λ (b : Bool). b && held last) is ∙ ap (λ (b : Bool). list_all held texts && b) (and_true (held last)) ∙ sym (list_all-append held texts (last ∷ []))

pub returns-then-holds_all : goal.returns-then-holds_all
returns-then-holds_all g c =
    let held = holds (g.B.Blocks.held c.args.blocks.now) in
    let blocks = c.args.laid.now.blocks.items in
    let is : true ≡ list_all held (map vec_items blocks) = sym c.if-holds_all.true ∙ c.holds_all.ensures ∙ ap (list_all (λ text. held (vec_items text))) c.deref.ensures.value ∙ sym (list_all-map held vec_items blocks) in
    c.holds.ensures ∙ ap held c.deref-then-holds_all.ensures.value ∙ both held true (map vec_items blocks) c.args.laid.now.inode.items is

pub returns-else-holds_all : goal.returns-else-holds_all
returns-else-holds_all g c =
    let held = holds (g.B.Blocks.held c.args.blocks.now) in
    let blocks = c.args.laid.now.blocks.items in
    let is : false ≡ list_all held (map vec_items blocks) = sym c.if-holds_all.false ∙ c.holds_all.ensures ∙ ap (list_all (λ text. held (vec_items text))) c.deref.ensures.value ∙ sym (list_all-map held vec_items blocks) in
    c.if-holds_all.false ∙ both held false (map vec_items blocks) c.args.laid.now.inode.items is
