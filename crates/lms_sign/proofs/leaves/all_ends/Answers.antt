use Rattle.std.proofs.Common.{◌≡◌, ℕ, List, [], slice_index, slice_index_or, sym, ap, ◌∙◌, inl, inr, arith}
use Rattle.std.proofs.lemmas.List.{get_or-set_same, get_or-set_other, length-set}
use Rattle.std.proofs.lemmas.Bool.{cases_lt}
use Rattle.lms_sign.specs.Chains.{value_of}
use Rattle.lms_sign.proofs.leaves.all_ends.Goals as goal

pub loop-chain-preserved : goal.loop-chain-preserved
loop-chain-preserved c =
    let all : List (List (List ℕ)) = c.loop-chain.all in
    let at : ℕ = c.from.result in
    let here : at ≡ c.loop-chain.chain = c.from.ensures in
    let new : List (List ℕ) = c.to_arrays.result in (
      length-set all at new ∙ c.loop-chain.invariant.0,
      λ chain i below lt. elim (cases_lt chain c.loop-chain.chain) [
        | inl before ↦ ap (λ (l : List (List ℕ)). slice_index_or l i []) (get_or-set_other all at chain new [] (omega arith)) ∙ c.loop-chain.invariant.1 chain i before lt
        | inr last ↦ let same : c.loop-chain.chain ≡ chain = omega arith in
            rw (← same, ← here)
            (ap (λ (l : List (List ℕ)). slice_index_or l i []) (get_or-set_same all at new [] (omega arith)) ∙ c.to_arrays.ensures i lt ∙ c.ends.ensures i lt
            ∙ ap (λ n. value_of c.args.seed.now c.args.id.now (slice_index c.args.leaves i) 15 n) (sym here))
      ],
    )
