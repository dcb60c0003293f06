use Rattle.std.proofs.Common.{◌≡◌, ℕ, List, [], ◌∷◌, ◌++◌, ◌+◌, ap, drop, map, sym, ◌∙◌, subst, append-nil}
use Rattle.std.proofs.Math.ListN.{drop_of_length-le}
use Rattle.std.proofs.lemmas.List.{drop_more}
use Rattle.std.specs.Vec.{vec_items}
use Rattle.layout.specs.Hash.{hash}
use Rattle.checked_blocks.proofs.WholeTexts.{one_on}
use Rattle.checked_blocks.proofs.digests.push_each.Goals as goal

pub loop-text-preserved : goal.loop-text-preserved
loop-text-preserved g c =
    let texts = c.args.texts.now in
    let i = c.loop-text.text-index in
    let rest : List (List ℕ) = map hash (map vec_items (drop (i + 1) texts)) in
    let was = c.loop-text.digests.items in
    let all = c.args.digests.now.items ++ map hash (map vec_items texts) in
    let next = ap (λ ts. map hash (map vec_items ts)) (drop_more texts i c.text-item.result c.loop-text-test.true) ∙ ap (λ t. hash (vec_items t) ∷ rest) (sym c.text-item.is) in
    one_on was _ (hash (vec_items c.text-item.result)) rest all
    (c.in_ok-push.ensures.items ∙ ap (λ (d : List ℕ). was ++ d ∷ []) (c.digest.ensures.hash ∙ ap hash c.deref.ensures.value))
    (subst (λ (ds : List (List ℕ)). was ++ ds ≡ all) next c.loop-text.invariant)

pub returns : goal.returns
returns g c =
    let none = ap (λ ts. map hash (map vec_items ts)) (drop_of_length-le c.args.texts.now c.loop-text-test.false) in
    let all = c.args.digests.now.items ++ map hash (map vec_items c.args.texts.now) in
    sym (append-nil c.loop-text.digests.items) ∙ subst (λ (ds : List (List ℕ)). c.loop-text.digests.items ++ ds ≡ all) none c.loop-text.invariant
