-- Ends of lists.
use Rattle.std.proofs.Common.{◌≡◌, List, [], ◌∷◌, ◌++◌, length, refl, ap, arith, length-append}

-- two lists that are alike, where the ends are as long, have the same ends and the same beginnings
pub same_ends : {A : Type 0} (xs ys zs ws : List A) → xs ++ ys ≡ zs ++ ws → length ys ≡ length ws → (xs ≡ zs) × (ys ≡ ws)
same_ends [] ys [] ws e n = (refl, e)
same_ends [] ys (z ∷ zs) ws e n = absurd (omega (arith, n, ap length e, length-append zs ws))
same_ends (x ∷ xs) ys [] ws e n = absurd (omega (arith, n, ap length e, length-append xs ys))
same_ends (x ∷ xs) ys (z ∷ zs) ws e n = let rest = same_ends xs ys zs ws (cc e) n in (cc (e, rest.0), rest.1)
