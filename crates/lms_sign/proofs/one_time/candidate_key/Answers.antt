use Rattle.std.proofs.Common.{◌≡◌, ◌-◌, ◌<◌, ℕ, List, [], slice_index, slice_index_or, replicate, ap, ◌∙◌, arith}
use Rattle.std.proofs.lemmas.List.{get_or-replicate}
use Rattle.lms_sign.specs.Chains.{chained, end_from}
use Rattle.lms_sign.specs.Digits.{digit}
use Rattle.lms_sign.specs.OneTime.{candidate}
use Rattle.lms_sign.specs.Signature.{value_in}
use Rattle.lms_sign.proofs.one_time.candidate_key.Goals as goal

pub advance_all-requires : goal.advance_all-requires
advance_all-requires c chain lt =
    let end = get_or-replicate 67 chain c.from-ends.result 0 lt in
    omega (arith, end, c.from-ends.ensures)

pub returns : goal.returns
unfolding candidate
returns c =
    let id : List ℕ = c.args.id.now in
    let leaf : ℕ = c.args.leaf in
    let digest : List ℕ = c.args.digest.now in
    let values : List (List ℕ) = c.values_of-values.result in
    let ends : (chain : ℕ) → chain < 67 → slice_index_or c.advance_all.new.values chain [] ≡ end_from id leaf chain (digit digest chain) (value_in c.args.signature.now chain) =
    λ chain lt.
    let first : ℕ = slice_index c.digits_of.result chain in
    let end : slice_index (replicate 67 c.from-ends.result) chain ≡ 15 = get_or-replicate 67 chain c.from-ends.result 0 lt ∙ c.from-ends.ensures in
    c.advance_all.ensures chain lt
    ∙ ap (λ n. chained id leaf chain first (n - first) (slice_index_or values chain [])) end
    ∙ ap (λ n. chained id leaf chain n (15 - n) (slice_index_or values chain [])) (c.digits_of.ensures.digits chain lt)
    ∙ ap (end_from id leaf chain (digit digest chain)) (c.values_of-values.ensures chain lt) in
    c.key_from.ensures (λ chain. end_from id leaf chain (digit digest chain) (value_in c.args.signature.now chain)) ends
