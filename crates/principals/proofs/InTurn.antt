-- A list whose elements are changed one after the other.
use Rattle.std.proofs.Common.{◌≡◌, ℕ, zero, suc, ◌+◌, ◌<◌, ◌≤◌, List, [], ◌∷◌, ◌++◌, length, get_or, take, drop, refl, ap, arith, map}
use Rattle.std.specs.List.{slice_set}

-- the first i are changed
abbrev pub changed : {X : Type 0} → (X → X) → ℕ → List X → List X
changed f i xs = map f (take i xs) ++ drop i xs

pub next_is : {X : Type 0} (f : X → X) (i : ℕ) (xs : List X) (d : X) → i < length xs → get_or (changed f i xs) i d ≡ get_or xs i d
next_is f i [] d lt = absurd (omega arith)
next_is f zero (x ∷ xs) d lt = refl
next_is f (suc i) (x ∷ xs) d lt = next_is f i xs d (omega arith)

pub one_more : {X : Type 0} (f : X → X) (i : ℕ) (xs : List X) (y d : X) → i < length xs → y ≡ f (get_or xs i d) → slice_set (changed f i xs) i y ≡ changed f (i + 1) xs
one_more f i [] y d lt is = absurd (omega arith)
one_more f zero (x ∷ xs) y d lt is = ap (λ z. z ∷ xs) is
one_more {X} f (suc i) (x ∷ xs) y d lt is =
    let next : suc i + 1 ≡ suc (i + 1) = omega arith in
    rw next (ap (λ (ys : List X). f x ∷ ys) (one_more f i xs y d (omega arith) is))

pub all_changed : {X : Type 0} (f : X → X) (i : ℕ) (xs : List X) → length xs ≤ i → changed f i xs ≡ map f xs
all_changed f zero [] le = refl
all_changed f (suc i) [] le = refl
all_changed f zero (x ∷ xs) le = absurd (omega arith)
all_changed {X} f (suc i) (x ∷ xs) le = ap (λ (ys : List X). f x ∷ ys) (all_changed f i xs (omega arith))
