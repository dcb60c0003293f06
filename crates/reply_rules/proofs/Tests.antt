-- Laws of tests on lists and numbers.
use Rattle.std.proofs.Common.{◌≡◌, ℕ, zero, suc, ◌+◌, add-one, inl, inr, ◌<◌, Bool, true, false, ◌&&◌, ◌||◌, cond, List, [], ◌∷◌, refl, sym, ap, ◌∙◌, map, filter, arith, length, drop, drop-cons}
use Rattle.std.specs.Prelude.{slice_index_or}
use Rattle.std.specs.List.{list_all, list_any}
use Rattle.std.proofs.lemmas.Bool.{cases_lt}
use Rattle.reply_rules.specs.Rules.{every_below}

pub both : (a b : Bool) → (a && b) ≡ true → (a ≡ true) × (b ≡ true)
both true true h = (refl, refl)
both true false h = absurd cc
both false b h = absurd cc

pub is_false : (b : Bool) → (b ≡ true → ⊥) → b ≡ false
is_false true h = absurd (h refl)
is_false false h = refl

pub and_false : (a : Bool) → (a && false) ≡ false
and_false true = refl
and_false false = refl

-- ---- each number below another

-- the test holds of no number below 0, and of one number more
pub below_zero : (t : ℕ → Bool) → every_below 0 t ≡ true
unfolding every_below
below_zero t = refl

pub below_more : (t : ℕ → Bool) (n : ℕ) → every_below n t ≡ true → t n ≡ true → every_below (n + 1) t ≡ true
unfolding every_below
below_more t n all here = rw (add-one, all, here) refl

-- one number below of which it doesn't hold
pub below_fails : (t : ℕ → Bool) (n k : ℕ) → k < n → t k ≡ false → every_below n t ≡ false
unfolding every_below
below_fails t zero k lt fails = absurd (omega arith)
below_fails t (suc n) k lt fails =
    elim (cases_lt k n) [
      | inl less ↦ rw (below_fails t n k less fails) refl
      | inr le ↦ let same : k ≡ n = omega arith in rw (← same, fails) (and_false (every_below k t))
    ]

-- ---- filters

pub filter-map : {A B : Type 0} (t : B → Bool) (f : A → B) (xs : List A) → filter t (map f xs) ≡ map f (filter (λ x. t (f x)) xs)
filter-map t f [] = refl
filter-map {A} {B} t f (x ∷ xs) = step (t (f x)) (filter-map t f xs)
  where
    step : (b : Bool) → filter t (map f xs) ≡ map f (filter (λ x. t (f x)) xs) → cond b (f x ∷ filter t (map f xs)) (filter t (map f xs)) ≡ map f (cond b (x ∷ filter (λ x. t (f x)) xs) (filter (λ x. t (f x)) xs))
    step true h = ap (λ (ys : List B). f x ∷ ys) h
    step false h = h

-- ---- maps

pub any-map : {A B : Type 0} (t : B → Bool) (f : A → B) (xs : List A) → list_any t (map f xs) ≡ list_any (λ x. t (f x)) xs
any-map t f [] = refl
any-map t f (x ∷ xs) = ap (λ c. t (f x) || c) (any-map t f xs)

pub all-map : {A B : Type 0} (t : B → Bool) (f : A → B) (xs : List A) → list_all t (map f xs) ≡ list_all (λ x. t (f x)) xs
all-map t f [] = refl
all-map t f (x ∷ xs) = ap (λ c. t (f x) && c) (all-map t f xs)

-- ---- the next one of a list

pub dropped : {A : Type 0} (xs : List A) (k : ℕ) (x : A) → k < length xs → x ≡ slice_index_or xs k x → drop k xs ≡ x ∷ drop (k + 1) xs
dropped {A} xs k x inside at = rw add-one (drop-cons xs k x inside ∙ ap (λ (y : A). y ∷ drop (suc k) xs) (sym at))
