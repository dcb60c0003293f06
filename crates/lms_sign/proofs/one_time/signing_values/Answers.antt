use Rattle.std.proofs.Common.{◌≡◌, ℕ, List, slice_index, replicate, ap, ◌∙◌, arith}
use Rattle.std.proofs.lemmas.List.{get_or-replicate}
use Rattle.lms_sign.specs.Chains.{chained, drawn}
use Rattle.lms_sign.specs.OneTime.{signed_value}
use Rattle.lms_sign.proofs.one_time.signing_values.Goals as goal

pub returns : goal.returns
unfolding signed_value
returns c chain lt =
    let id : List ℕ = c.args.id.now in
    let leaf : ℕ = c.args.leaf in
    let none : slice_index (replicate 67 0) chain ≡ 0 = get_or-replicate 67 chain 0 0 lt in
    c.advance_all.ensures chain lt
    ∙ rw (none, c.drawn_values-values.ensures chain lt, c.digits_of.ensures.digits chain lt)
    (ap (λ n. chained id leaf chain 0 n (drawn c.args.seed.now id leaf chain)) (omega arith))
