-- Chains, a step at a time and in two parts.
use Rattle.std.proofs.Common.{◌≡◌, ℕ, zero, suc, ◌+◌, ◌-◌, ◌≤◌, List, ap, ◌∙◌, arith}
use Rattle.lms_sign.specs.Chains.{step, chained}

-- one step more
pub chained_more : (id value : List ℕ) (leaf chain first number : ℕ) → first ≤ number → chained id leaf chain first (number + 1 - first) value ≡ step id leaf chain number (chained id leaf chain first (number - first) value)
unfolding chained
chained_more id value leaf chain first number le =
    let count : number + 1 - first ≡ suc (number - first) = omega arith in
    let last : first + (number - first) ≡ number = omega arith in
    ap (λ n. chained id leaf chain first n value) count ∙ ap (λ n. step id leaf chain n (chained id leaf chain first (number - first) value)) last

-- some steps and then some more are all of them
pub chained_chained : (id value : List ℕ) (leaf chain first count more : ℕ) → chained id leaf chain (first + count) more (chained id leaf chain first count value) ≡ chained id leaf chain first (count + more) value
unfolding chained
chained_chained id value leaf chain first count zero = let same : count ≡ count + 0 = omega arith in ap (λ n. chained id leaf chain first n value) same
chained_chained id value leaf chain first count (suc more) =
    let last : (first + count) + more ≡ first + (count + more) = omega arith in
    let all : suc (count + more) ≡ count + suc more = omega arith in
    ap (step id leaf chain (first + count + more)) (chained_chained id value leaf chain first count more)
    ∙ ap (λ n. step id leaf chain n (chained id leaf chain first (count + more) value)) last
    ∙ ap (λ n. chained id leaf chain first n value) all

-- no steps
pub chained_none : (id value : List ℕ) (leaf chain first : ℕ) → chained id leaf chain first (first - first) value ≡ value
unfolding chained
chained_none id value leaf chain first = let none : first - first ≡ 0 = omega arith in ap (λ n. chained id leaf chain first n value) none
