use Rattle.std.proofs.Common.{ℕ, ◌+◌, ◌*◌, List, [], slice_index, slice_index_or, ap, ◌∙◌, refl, arith}
use Rattle.std.proofs.lemmas.List.{get_or-replicate}
use Rattle.sha2.specs.Sha256.{sha256}
use Rattle.sha256_lanes.specs.Lanes.{short_text}
use Rattle.lms_sign.proofs.Grouped.{short_step}
use Rattle.lms_sign.proofs.stepping.step_listed.Goals as goal

pub returns-clause-stepped : goal.returns-clause-stepped
returns-clause-stepped c k lt =
    let id : List ℕ = c.args.id.now in
    let leaf : ℕ = c.args.leaf in
    let chain : ℕ = slice_index c.args.chains.now k in
    let small = c.requires.chains k lt in
    let lane : ℕ = k in
    let old : List ℕ = slice_index_or c.args.values.now chain [] in
    c.put_back.ensures.put k lt ∙ c.to_arrays.ensures k (omega arith) ∙ c.hash_short-after.ensures k (omega arith)
    ∙ ap (λ n. sha256 (short_text id n (slice_index c.marks.result k) (slice_index_or c.from_arrays-before.result k []))) (get_or-replicate 8 k leaf 0 (omega arith))
    ∙ ap (λ m. sha256 (short_text id leaf m (slice_index_or c.from_arrays-before.result k []))) (c.marks.ensures.marks k lt)
    ∙ ap (λ (l : List ℕ). sha256 (short_text id leaf (chain * 256 + c.args.number) l)) (c.from_arrays-before.ensures k (omega arith) ∙ c.taken.ensures k lt)
    ∙ short_step id old leaf chain c.args.number (chain * 256 + c.args.number) (omega arith) (omega arith) refl
