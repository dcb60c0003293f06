use Rattle.std.proofs.Common.{◌≡◌, ℕ, ◌+◌, ◌*◌, List, ◌++◌, ◌∷◌, [], length, take, drop, map, sym, ap, ◌∙◌, subst, arith, append-nil}
use Rattle.std.proofs.Math.ListN.{drop_of_length-le}
use Rattle.std.proofs.lemmas.List.{length-map}
use Rattle.std.specs.List.{flat_map}
use Rattle.std.specs.Vec.{vec_items}
use Rattle.layout.specs.Hash.{hash}
use Rattle.checked_blocks.proofs.WholeTexts.{next_whole, one_on, whole_length}
use Rattle.checked_blocks.proofs.digests.push_eight.Goals as goal

pub digests_of_whole-each-requires-clause-fits : goal.digests_of_whole-each-requires-clause-fits
digests_of_whole-each-requires-clause-fits g c =
    let long = whole_length c.args.texts.now c.requires.whole in
    let same = ap length (c.deref.ensures.value ∙ c.in_ok-all.ensures) in
    omega (arith, long, same, c.requires.eight)

pub loop-number-preserved : goal.loop-number-preserved
unfolding hash
loop-number-preserved g c =
    let texts = c.args.texts.now in
    let number : ℕ = c.loop-number.number in
    let bytes : List ℕ = flat_map vec_items texts in
    let block : List ℕ = take 4096 (drop (4096 * number) bytes) in
    let rest : List (List ℕ) = map hash (drop (number + 1) (map vec_items texts)) in
    let was = c.loop-number.digests.items in
    let all = c.args.digests.now.items ++ map hash (map vec_items texts) in
    let next = ap (map hash) (next_whole texts number c.requires.whole (omega (arith, c.requires.eight))) in
    let same = c.deref.ensures.value ∙ c.in_ok-all.ensures in
    one_on was _ (hash block) rest all
    (c.in_ok-push.ensures.items ∙ ap (λ (d : List ℕ). was ++ d ∷ []) (c.from_bytes.ensures ∙ c.digests_of_whole-each.ensures number (omega arith) ∙ ap (λ (b : List ℕ). hash (take 4096 (drop (4096 * number) b))) same))
    (subst (λ (ds : List (List ℕ)). was ++ ds ≡ all) next c.loop-number.invariant)

pub returns : goal.returns
returns g c =
    let none = ap (map hash) (drop_of_length-le (map vec_items c.args.texts.now) (omega (arith, c.requires.eight, length-map c.args.texts.now vec_items))) in
    let all = c.args.digests.now.items ++ map hash (map vec_items c.args.texts.now) in
    sym (append-nil c.loop-number.digests.items) ∙ subst (λ (ds : List (List ℕ)). c.loop-number.digests.items ++ ds ≡ all) none c.loop-number.invariant
