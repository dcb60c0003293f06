-- Any two of a list, an earlier one and a later.
use Rattle.std.proofs.Common.{List, [], ◌∷◌, ◌++◌, map, reverse, Bool, refl, sym, subst, inl, inr}
use Rattle.std.specs.List.{filter}
use Rattle.std.proofs.lemmas.Bool.{cases_Bool}
use Rattle.agreement.proofs.Members.{In, in-append, in-filter, in-map}
use Rattle.honest_history.proofs.Members.{in_unreverse, reverse_cons}

-- each stands so to each later one
abbrev pub Pairwise : {A : Type 0} → (A → A → Type 0) → List A → Type 0
Pairwise R [] = Unit {0}
Pairwise R (x ∷ xs) = ((y : _) → In y xs → R x y) × Pairwise R xs

pub pairwise_append : {A : Type 0} (R : A → A → Type 0) (xs ys : List A) → Pairwise R xs → Pairwise R ys → ((x y : A) → In x xs → In y ys → R x y) → Pairwise R (xs ++ ys)
pairwise_append R [] ys p q c = q
pairwise_append R (x ∷ xs) ys p q c =
    (λ y i. elim (in-append y xs ys i) [ inl k ↦ p.0 y k | inr k ↦ c x y (inl refl) k ], pairwise_append R xs ys p.1 q (λ a b i j. c a b (inr i) j))

pub pairwise_filter : {A : Type 0} (R : A → A → Type 0) (t : A → Bool) (xs : List A) → Pairwise R xs → Pairwise R (filter t xs)
pairwise_filter R t [] p = tt
pairwise_filter R t (x ∷ xs) p =
    elim (cases_Bool (t x)) [
      | inl e ↦ rw e (λ y i. p.0 y (in-filter t y xs i).0, pairwise_filter R t xs p.1)
      | inr e ↦ rw e (pairwise_filter R t xs p.1)
    ]

pub pairwise_reverse : {A : Type 0} (R : A → A → Type 0) (xs : List A) → Pairwise (λ x y. R y x) xs → Pairwise R (reverse xs)
pairwise_reverse R [] p = tt
pairwise_reverse R (x ∷ xs) p =
    rw (reverse_cons x xs) (pairwise_append R (reverse xs) (x ∷ []) (pairwise_reverse R xs p.1) (λ y i. absurd i, tt)
    (λ a b i j. elim j [ inl e ↦ subst (λ z. R a z) (sym e) (p.0 a (in_unreverse a xs i)) | inr z ↦ absurd z ]))

pub pairwise_map : {A B : Type 0} (R : B → B → Type 0) (f : A → B) (xs : List A) → Pairwise (λ x y. R (f x) (f y)) xs → Pairwise R (map f xs)
pairwise_map R f [] p = tt
pairwise_map R f (x ∷ xs) p =
    (λ y i. let r = in-map f xs y i in subst (λ z. R (f x) z) (sym r.2) (p.0 r.0 r.1), pairwise_map R f xs p.1)

pub pairwise_more : {A : Type 0} (R S : A → A → Type 0) (xs : List A) → Pairwise R xs → ((x y : A) → In x xs → In y xs → R x y → S x y) → Pairwise S xs
pairwise_more R S [] p h = tt
pairwise_more R S (x ∷ xs) p h = (λ y i. h x y (inl refl) (inr i) (p.0 y i), pairwise_more R S xs p.1 (λ a b i j. h a b (inr i) (inr j)))
