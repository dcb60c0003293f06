use Rattle.std.proofs.Common.{◌≡◌, ℕ, List, [], slice_index, slice_index_or, replicate, ◌∙◌, refl}
use Rattle.std.proofs.lemmas.List.{get_or-replicate}
use Rattle.lms_sign.specs.Chains.{drawn}
use Rattle.lms_sign.proofs.one_time.drawn_values.Goals as goal

pub returns : goal.returns
unfolding drawn
returns c chain lt =
    let seed : List ℕ = c.args.seed.now in
    let none : slice_index (replicate 67 0) chain ≡ 0 = get_or-replicate 67 chain 0 0 lt in
    let all : slice_index (replicate 67 65535) chain ≡ 65535 = get_or-replicate 67 chain 65535 0 lt in
    let start : slice_index_or (replicate 67 seed) chain [] ≡ seed = get_or-replicate 67 chain seed [] lt in
    c.step_all.ensures chain lt ∙ rw (none, all, start) refl
