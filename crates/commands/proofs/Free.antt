-- The least free i-number of a range, from what is told of the range.
use Rattle.std.proofs.Common.{◌≡◌, ◌+◌, ◌<◌, ◌≤◌, ℕ, zero, suc, Bool, true, false, true≢false, Option, Some, None, refl, sym, ap, ◌∙◌, arith, nat_lt, ltb-true, ltb-false}
use Rattle.std.specs.Prelude.{is_some, IsSome}
use Rattle.update_cert.specs.World.{Content}
use Rattle.commands.specs.Asked.{least_free}

-- something stands at each i-number of the range that is below this one
abbrev AreTaken : (ℕ → Option Content) → ℕ → ℕ → Type 0
AreTaken content first i = (j : ℕ) → first ≤ j → j < i → IsSome (content j)

pub least_found : (content : ℕ → Option Content) (n first i : ℕ) → first ≤ i → i < first + n → content i ≡ None
    → AreTaken content first i → least_free content first n ≡ Some i
unfolding least_free
least_found content zero first i low high free taken = absurd (omega (arith, low, high))
least_found content (suc n) first i low high free taken = go (λ l h t. least_found content n (first + 1) i l h free t) (is_some (content first)) refl
  where
    go : (first + 1 ≤ i → i < first + 1 + n → AreTaken content (first + 1) i → least_free content (first + 1) n ≡ Some i)
        → (b : Bool) → is_some (content first) ≡ b → least_free content first (suc n) ≡ Some i
    go next true t = rw t (after (nat_lt first i) refl)
      where
        after : (b : Bool) → nat_lt first i ≡ b → least_free content (first + 1) n ≡ Some i
        after true less = next (omega (arith, ltb-true first i less)) (omega (arith, high)) (λ j l h. taken j (omega (arith, l)) h)
        after false ends =
            let same : first ≡ i = omega (arith, low, ltb-false first i ends) in
            absurd (true≢false (sym t ∙ ap (λ k. is_some (content k)) same ∙ ap is_some free))
    go next false t = rw t (here (nat_lt first i) refl)
      where
        here : (b : Bool) → nat_lt first i ≡ b → Some first ≡ Some i
        here true less = absurd (true≢false (sym (taken first (omega arith) (ltb-true first i less)) ∙ t))
        here false ends = ap (λ k. Some k) (omega (arith, low, ltb-false first i ends))

pub none_found : (content : ℕ → Option Content) (n first : ℕ) → AreTaken content first (first + n) → least_free content first n ≡ None
unfolding least_free
none_found content zero first taken = refl
none_found content (suc n) first taken =
    rw (taken first (omega arith) (omega arith)) (none_found content n (first + 1) (λ j l h. taken j (omega (arith, l)) (omega (arith, h))))
