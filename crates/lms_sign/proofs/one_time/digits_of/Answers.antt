use Rattle.std.proofs.Common.{◌≡◌, ◌≤◌, ℕ, List, ap, ◌∙◌, inl, inr, arith}
use Rattle.std.proofs.lemmas.List.{get_or-set_same, get_or-set_other, length-set}
use Rattle.std.proofs.lemmas.Bool.{cases_lt}
use Rattle.lms_sign.specs.Digits.{coefficient, digit}
use Rattle.lms_sign.proofs.one_time.digits_of.Goals as goal

pub loop-chain-preserved : goal.loop-chain-preserved
unfolding digit
loop-chain-preserved c =
    let digits : List ℕ = c.loop-chain.digits in
    let at : ℕ = c.loop-chain.chain in
    let new : ℕ = c.from.result in
    let is : new ≡ digit c.args.digest.now at = c.from.ensures ∙ c.coefficient.ensures.value ∙ ap (λ (l : List ℕ). coefficient l at) c.with_checksum-checked.ensures in
    let small : new ≤ 15 = omega (arith, c.from.ensures, c.coefficient.ensures.small) in (
      length-set digits at new ∙ c.loop-chain.invariant.0,
      λ chain below. elim (cases_lt chain at) [
        | inl before ↦
            let same = get_or-set_other digits at chain new 0 (omega arith) in
            (same ∙ (c.loop-chain.invariant.1 chain before).0, omega (arith, same, (c.loop-chain.invariant.1 chain before).1))
        | inr last ↦
            let here : at ≡ chain = omega arith in
            let same = get_or-set_same digits at new 0 (omega arith) in
            rw (← here) (same ∙ is, omega (arith, same, small))
      ],
    )
