use Rattle.std.proofs.Common.{◌≡◌, ◌<◌, ℕ, List, [], slice_index, slice_index_or, replicate, ◌∙◌, refl, arith}
use Rattle.std.proofs.lemmas.List.{get_or-replicate}
use Rattle.lms_sign.specs.Chains.{value_of}
use Rattle.lms_sign.specs.OneTime.{key_of}
use Rattle.lms_sign.proofs.one_time.leaf_key.Goals as goal

pub advance_all-requires : goal.advance_all-requires
advance_all-requires c chain lt =
    let end = get_or-replicate 67 chain c.from-ends.result 0 lt in
    omega (arith, end, c.from-ends.ensures)

pub returns : goal.returns
unfolding key_of
returns c =
    let id : List ℕ = c.args.id.now in
    let leaf : ℕ = c.args.leaf in
    let seed : List ℕ = c.args.seed.now in
    let ends : (chain : ℕ) → chain < 67 → slice_index_or c.advance_all.new.values chain [] ≡ value_of seed id leaf 15 chain =
    λ chain lt.
    let none : slice_index (replicate 67 0) chain ≡ 0 = get_or-replicate 67 chain 0 0 lt in
    let end : slice_index (replicate 67 c.from-ends.result) chain ≡ 15 = get_or-replicate 67 chain c.from-ends.result 0 lt ∙ c.from-ends.ensures in
    c.advance_all.ensures chain lt ∙ rw (none, end, c.drawn_values-values.ensures chain lt) refl in
    c.key_from.ensures (value_of seed id leaf 15) ends
