-- Members of lists.
use Rattle.std.proofs.Common.{◌≡◌, ◌≢◌, ℕ, zero, suc, ◌<◌, List, [], ◌∷◌, ◌++◌, length, Bool, true, false, cond, refl, sym, ap, ◌∙◌, subst, inl, inr, arith}
use Rattle.std.specs.Prelude.{◌⊎◌, ◌==◌, if◌then◌else◌, map, slice_index_or}
use Rattle.std.specs.List.{All, Contains, filter, flat_map}
use Rattle.std.proofs.lemmas.Bool.Decides.{nat_tests}

-- x is one of these
abbrev pub In : {A : Type 0} → A → List A → Type 0
In x [] = ⊥
In x (y ∷ ys) = (x ≡ y) ⊎ In x ys

-- 1 for the same user, else 0
abbrev pub one : ℕ → ℕ → ℕ
one u v = if u == v then 1 else 0

pub in-left : {A : Type 0} (q : A) (xs ys : List A) → In q xs → In q (xs ++ ys)
in-left q [] ys h = absurd h
in-left q (x ∷ xs) ys (inl e) = inl e
in-left q (x ∷ xs) ys (inr h) = inr (in-left q xs ys h)

pub in-right : {A : Type 0} (q : A) (xs ys : List A) → In q ys → In q (xs ++ ys)
in-right q [] ys h = h
in-right q (x ∷ xs) ys h = inr (in-right q xs ys h)

pub in-append : {A : Type 0} (q : A) (xs ys : List A) → In q (xs ++ ys) → In q xs ⊎ In q ys
in-append q [] ys h = inr h
in-append q (x ∷ xs) ys (inl e) = inl (inl e)
in-append q (x ∷ xs) ys (inr h) = elim (in-append q xs ys h) [ inl k ↦ inl (inr k) | inr k ↦ inr k ]

pub in-middle : {A : Type 0} (q : A) (xs ys : List A) → In q (xs ++ q ∷ ys)
in-middle q xs ys = in-right q xs (q ∷ ys) (inl refl)

pub in-split : {A : Type 0} (q : A) (xs : List A) → In q xs → (before : List A) × (after : List A) × (xs ≡ before ++ q ∷ after)
in-split q [] h = absurd h
in-split q (x ∷ xs) (inl e) = ([], xs, cc)
in-split q (x ∷ xs) (inr h) = let (b, a, e) = in-split q xs h in (x ∷ b, a, ap (λ l. x ∷ l) e)

pub in-filter : {A : Type 0} (t : A → Bool) (q : A) (xs : List A) → In q (filter t xs) → In q xs × (t q ≡ true)
in-filter t q [] h = absurd h
in-filter {A} t q (x ∷ xs) h = go (t x) refl (in-filter t q xs) h
  where
    go : (b : Bool) → t x ≡ b → (In q (filter t xs) → In q xs × (t q ≡ true)) → In q (cond b (x ∷ filter t xs) (filter t xs)) → In q (x ∷ xs) × (t q ≡ true)
    go true e ih (inl k) = (inl k, ap t k ∙ e)
    go true e ih (inr k) = let r = ih k in (inr r.0, r.1)
    go false e ih k = let r = ih k in (inr r.0, r.1)

pub in-kept : {A : Type 0} (t : A → Bool) (q : A) (xs : List A) → In q xs → t q ≡ true → In q (filter t xs)
in-kept t q [] h e = absurd h
in-kept t q (x ∷ xs) (inl k) e = rw (sym (ap t k) ∙ e) (inl k)
in-kept {A} t q (x ∷ xs) (inr k) e = go (t x) (in-kept t q xs k e)
  where
    go : (b : Bool) → In q (filter t xs) → In q (cond b (x ∷ filter t xs) (filter t xs))
    go true h = inr h
    go false h = h

-- where p stands in a ++ c: in a, or in c
pub split : {A : Type 0} (p : A) (a c b r : List A) → a ++ c ≡ b ++ p ∷ r → ((r' : List A) × (a ≡ b ++ p ∷ r')) ⊎ ((b' : List A) × (b ≡ a ++ b') × (c ≡ b' ++ p ∷ r))
split p [] c b r e = inr (b, refl, e)
split p (x ∷ a) c [] r e = let k : x ≡ p = cc in inl (a, ap (λ y. y ∷ a) k)
split {A} p (x ∷ a) c (y ∷ b) r e =
    let k : x ≡ y = cc in
    let t : a ++ c ≡ b ++ p ∷ r = cc in
    elim (split p a c b r t) [ inl s ↦ inl (s.0, cc (s.1)) | inr s ↦ inr (s.0, cc (s.1), s.2) ]

pub nil-split : {A : Type 0} (p : A) (b r : List A) → [] ≡ b ++ p ∷ r → ⊥
nil-split p [] r e = cc
nil-split p (y ∷ b) r e = cc

pub one-same : (u v : ℕ) → u ≡ v → one u v ≡ 1
one-same u v e = grind (arith, nat_tests)

pub one-other : (u v : ℕ) → u ≢ v → one u v ≡ 0
one-other u v e = grind (arith, nat_tests)

pub one-cases : (u v : ℕ) → ((u ≡ v) × (one u v ≡ 1)) ⊎ ((u ≢ v) × (one u v ≡ 0))
one-cases u v = grind (arith, nat_tests)

-- from the end
pub last_or_nil : {A : Type 0} (xs : List A) → (xs ≡ []) ⊎ ((ys : List A) × (y : A) × (xs ≡ ys ++ y ∷ []))
last_or_nil [] = inl refl
last_or_nil {A} (x ∷ xs) = elim (last_or_nil xs) [ inl e ↦ inr ([], x, ap (λ l. x ∷ l) e) | inr s ↦ inr (x ∷ s.0, s.1, ap (λ l. x ∷ l) s.2) ]

pub last_same : {A : Type 0} (xs ys : List A) (x y : A) → xs ++ x ∷ [] ≡ ys ++ y ∷ [] → x ≡ y
last_same [] [] x y e = cc
last_same [] (z ∷ []) x y e = cc
last_same [] (z ∷ (w ∷ ys)) x y e = cc
last_same (z ∷ []) [] x y e = cc
last_same (z ∷ (w ∷ xs)) [] x y e = cc
last_same (z ∷ xs) (w ∷ ys) x y e = let t : xs ++ x ∷ [] ≡ ys ++ y ∷ [] = cc in last_same xs ys x y t

-- strictly ascending by a number
abbrev pub Ascends : {A : Type 0} → (A → ℕ) → List A → Type 0
Ascends f [] = Unit {0}
Ascends {A} f (x ∷ xs) = ((y : A) → In y xs → f x < f y) × Ascends f xs

pub ascends_back : {A : Type 0} (f : A → ℕ) (xs ys : List A) → Ascends f (xs ++ ys) → Ascends f ys
ascends_back f [] ys h = h
ascends_back f (x ∷ xs) ys h = ascends_back f xs ys h.1

pub ascends_kept : {A : Type 0} (f : A → ℕ) (t : A → Bool) (xs : List A) → Ascends f xs → Ascends f (filter t xs)
ascends_kept f t [] h = tt
ascends_kept {A} f t (x ∷ xs) h = go (t x) (ascends_kept f t xs h.1)
  where
    go : (b : Bool) → Ascends f (filter t xs) → Ascends f (cond b (x ∷ filter t xs) (filter t xs))
    go true ih = ((λ y i. h.0 y (in-filter t y xs i).0), ih)
    go false ih = ih

-- two ascending lists of the same members are one
pub ascends_same : {A : Type 0} (f : A → ℕ) (xs ys : List A) → Ascends f xs → Ascends f ys → ((q : A) → In q xs → In q ys) → ((q : A) → In q ys → In q xs) → xs ≡ ys
ascends_same f [] [] a b h k = refl
ascends_same f [] (y ∷ ys) a b h k = absurd (k y (inl refl))
ascends_same f (x ∷ xs) [] a b h k = absurd (h x (inl refl))
ascends_same {A} f (x ∷ xs) (y ∷ ys) a b h k =
    let e : x ≡ y = heads (h x (inl refl)) (k y (inl refl)) in
    let ih = ascends_same f xs ys a.1 b.1
    (λ q i. elim (h q (inr i)) [ inl m ↦ absurd (let l = a.0 q i in let n = ap f (m ∙ sym e) in omega arith) | inr m ↦ m ])
    (λ q i. elim (k q (inr i)) [ inl m ↦ absurd (let l = b.0 q i in let n = ap f (m ∙ e) in omega arith) | inr m ↦ m ]) in
    ap (λ z. z ∷ xs) e ∙ ap (λ z. y ∷ z) ih
  where
    heads : (x ≡ y) ⊎ In x ys → (y ≡ x) ⊎ In y xs → x ≡ y
    heads (inl m) n = m
    heads (inr m) (inl n) = sym n
    heads (inr m) (inr n) = absurd (let l = a.0 y n in let r = b.0 x m in omega arith)

-- ---- maps

pub in-map : {A B : Type 0} (f : A → B) (xs : List A) (y : B) → In y (map f xs) → (x : A) × In x xs × (y ≡ f x)
in-map f [] y i = absurd i
in-map f (x ∷ xs) y (inl e) = (x, inl refl, e)
in-map f (x ∷ xs) y (inr i) = let r = in-map f xs y i in (r.0, inr r.1, r.2)

pub map-in : {A B : Type 0} (f : A → B) (xs : List A) (x : A) → In x xs → In (f x) (map f xs)
map-in f [] x i = absurd i
map-in f (y ∷ ys) x (inl e) = inl (ap f e)
map-in f (y ∷ ys) x (inr i) = inr (map-in f ys x i)

pub flat_map-in : {A B : Type 0} (f : A → List B) (xs : List A) (x : A) (y : B) → In x xs → In y (f x) → In y (flat_map f xs)
flat_map-in f [] x y i j = absurd i
flat_map-in f (z ∷ zs) x y (inl e) j = in-left y (f z) (flat_map f zs) (subst (λ w. In y (f w)) e j)
flat_map-in f (z ∷ zs) x y (inr i) j = in-right y (f z) (flat_map f zs) (flat_map-in f zs x y i j)

-- ---- as std says it

pub in_contains : {A : Type 0} (x : A) (xs : List A) → In x xs → Contains xs x
in_contains x [] i = absurd i
in_contains x (y ∷ ys) (inl e) = (0, omega arith, sym e)
in_contains x (y ∷ ys) (inr i) = let r = in_contains x ys i in (suc r.0, omega (arith, r.1), r.2)

pub contains_in : {A : Type 0} (x : A) (xs : List A) → Contains xs x → In x xs
contains_in {A} x xs c = at xs c.0 c.1 c.2
  where
    at : (ys : List A) (k : ℕ) → k < length ys → slice_index_or ys k x ≡ x → In x ys
    at [] k l e = absurd (omega arith)
    at (y ∷ ys) zero l e = inl (sym e)
    at (y ∷ ys) (suc k) l e = inr (at ys k (omega arith) e)

pub of_all : {A : Type 0} (holds : A → Type 0) (xs : List A) → All holds xs → (x : A) → In x xs → holds x
of_all holds xs all x i = let c = in_contains x xs i in subst holds c.2 (all c.0 x c.1)

pub to_all : {A : Type 0} (holds : A → Type 0) (xs : List A) → ((x : A) → In x xs → holds x) → All holds xs
to_all holds [] each k d l = absurd (omega arith)
to_all holds (x ∷ xs) each zero d l = each x (inl refl)
to_all holds (x ∷ xs) each (suc k) d l = to_all holds xs (λ y i. each y (inr i)) k d (omega arith)
