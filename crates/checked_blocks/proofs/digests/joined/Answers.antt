use Rattle.std.proofs.Common.{ℕ, List, [], ◌∷◌, ◌++◌, ◌+◌, ap, drop, sym, ◌∙◌, append_assoc, append-nil}
use Rattle.std.proofs.Math.ListN.{drop_of_length-le}
use Rattle.std.proofs.lemmas.List.{drop_more}
use Rattle.std.specs.List.{flat_map}
use Rattle.std.specs.Vec.{vec_items}
use Rattle.checked_blocks.proofs.digests.joined.Goals as goal

pub loop-text-preserved : goal.loop-text-preserved
loop-text-preserved g c =
    let texts = c.args.texts.now in
    let i = c.loop-text.text-index in
    let rest : List ℕ = flat_map vec_items (drop (i + 1) texts) in
    let was = c.loop-text.all.items in
    let next = ap (flat_map vec_items) (drop_more texts i c.text-item.result c.loop-text-test.true) ∙ ap (λ t. vec_items t ++ rest) (sym c.text-item.is) in
    let more = c.in_ok-extend_from_slice.ensures.items ∙ ap (λ (l : List ℕ). was ++ l) c.deref.ensures.value in
    ap (λ (l : List ℕ). l ++ rest) more
    ∙ append_assoc was (vec_items c.text-item.result) rest
    ∙ ap (λ (l : List ℕ). was ++ l) (sym next)
    ∙ c.loop-text.invariant

pub returns : goal.returns
returns g c =
    let none = ap (flat_map vec_items) (drop_of_length-le c.args.texts.now c.loop-text-test.false) in
    sym (append-nil c.loop-text.all.items) ∙ ap (λ (l : List ℕ). c.loop-text.all.items ++ l) (sym none) ∙ c.loop-text.invariant
