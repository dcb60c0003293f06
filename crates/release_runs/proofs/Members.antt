-- Members of lists.
use Rattle.std.proofs.Common.{◌≡◌, ℕ, zero, suc, ◌<◌, List, [], ◌∷◌, ◌++◌, length, refl, sym, ap, inl, inr, arith}
use Rattle.std.specs.Prelude.{◌⊎◌, map, slice_index_or}
use Rattle.std.specs.List.{Contains}

-- x is one of these
abbrev pub In : {A : Type 0} → A → List A → Type 0
In x [] = ⊥
In x (y ∷ ys) = (x ≡ y) ⊎ In x ys

pub in-left : {A : Type 0} (q : A) (xs ys : List A) → In q xs → In q (xs ++ ys)
in-left q [] ys h = absurd h
in-left q (x ∷ xs) ys (inl e) = inl e
in-left q (x ∷ xs) ys (inr h) = inr (in-left q xs ys h)

pub in-right : {A : Type 0} (q : A) (xs ys : List A) → In q ys → In q (xs ++ ys)
in-right q [] ys h = h
in-right q (x ∷ xs) ys h = inr (in-right q xs ys h)

pub in-append : {A : Type 0} (q : A) (xs ys : List A) → In q (xs ++ ys) → In q xs ⊎ In q ys
in-append q [] ys h = inr h
in-append q (x ∷ xs) ys (inl e) = inl (inl e)
in-append q (x ∷ xs) ys (inr h) = elim (in-append q xs ys h) [ inl k ↦ inl (inr k) | inr k ↦ inr k ]

pub in-map : {A B : Type 0} (f : A → B) (xs : List A) (y : B) → In y (map f xs) → (x : A) × In x xs × (y ≡ f x)
in-map f [] y i = absurd i
in-map f (x ∷ xs) y (inl e) = (x, inl refl, e)
in-map f (x ∷ xs) y (inr i) = let r = in-map f xs y i in (r.0, inr r.1, r.2)

pub map-in : {A B : Type 0} (f : A → B) (xs : List A) (x : A) → In x xs → In (f x) (map f xs)
map-in f [] x i = absurd i
map-in f (y ∷ ys) x (inl e) = inl (ap f e)
map-in f (y ∷ ys) x (inr i) = inr (map-in f ys x i)

-- ---- as std says it

pub contains_in : {A : Type 0} (x : A) (xs : List A) → Contains xs x → In x xs
contains_in {A} x xs c = at xs c.0 c.1 c.2
  where
    at : (ys : List A) (k : ℕ) → k < length ys → slice_index_or ys k x ≡ x → In x ys
    at [] k l e = absurd (omega arith)
    at (y ∷ ys) zero l e = inl (sym e)
    at (y ∷ ys) (suc k) l e = inr (at ys k (omega arith) e)
