-- Members of lists, and what tests on lists say of them.
use Rattle.std.proofs.Common.{◌≡◌, ℕ, List, [], ◌∷◌, ◌++◌, map, reverse, Option, Some, None, Bool, true, false, cond, refl, sym, ap, ◌∙◌, subst, inl, inr, append-nil}
use Rattle.std.specs.Prelude.{◌&&◌, ◌||◌, find, filter_map}
use Rattle.std.specs.List.{filter, list_all, list_any, cons_option}
use Rattle.std.specs.Str.{bytes_eq}
use Rattle.std.proofs.lemmas.Bool.{cases_Bool, true≢false, and_from, false_from_ne_true}
use Rattle.std.proofs.lemmas.List.{map-append, reverse-append}
use Rattle.std.proofs.lemmas.List.Elements.{filter-append}
use Rattle.std.proofs.lemmas.Slice.Eq.{bytes_eq-Decides}
use Rattle.agreement.proofs.Tests.{any_in}
use Rattle.agreement.proofs.Members.{In, in-append, in-left, in-right}

pub reverse_cons : {A : Type 0} (x : A) (xs : List A) → reverse (x ∷ xs) ≡ reverse xs ++ x ∷ []
reverse_cons x xs = reverse-append (x ∷ []) xs

pub in_reverse : {A : Type 0} (q : A) (xs : List A) → In q xs → In q (reverse xs)
in_reverse q [] h = absurd h
in_reverse q (x ∷ xs) (inl e) = rw (reverse_cons x xs) (in-right q (reverse xs) (x ∷ []) (inl e))
in_reverse q (x ∷ xs) (inr h) = rw (reverse_cons x xs) (in-left q (reverse xs) (x ∷ []) (in_reverse q xs h))

pub in_unreverse : {A : Type 0} (q : A) (xs : List A) → In q (reverse xs) → In q xs
in_unreverse q [] h = absurd h
in_unreverse q (x ∷ xs) h =
    elim (in-append q (reverse xs) (x ∷ []) (subst (λ l. In q l) (reverse_cons x xs) h)) [
      | inl k ↦ inr (in_unreverse q xs k)
      | inr k ↦ elim k [ inl e ↦ inl e | inr z ↦ absurd z ]
    ]

-- ---- tests

pub all_from : {A : Type 0} (t : A → Bool) (xs : List A) → ((x : A) → In x xs → t x ≡ true) → list_all t xs ≡ true
all_from t [] h = refl
all_from t (x ∷ xs) h = and_from (t x) (list_all t xs) (h x (inl refl)) (all_from t xs (λ y i. h y (inr i)))

pub any_from : {A : Type 0} (t : A → Bool) (xs : List A) (x : A) → In x xs → t x ≡ true → list_any t xs ≡ true
any_from t [] x i h = absurd i
any_from t (y ∷ ys) x (inl e) h = rw (sym (ap t e) ∙ h) refl
any_from {A} t (y ∷ ys) x (inr i) h = go (t y) (any_from t ys x i h)
  where
    go : (b : Bool) → list_any t ys ≡ true → (b || list_any t ys) ≡ true
    go true e = refl
    go false e = e

pub none_in : {A : Type 0} (t : A → Bool) (xs : List A) → list_any t xs ≡ false → (x : A) → In x xs → t x ≡ false
none_in t xs h x i = false_from_ne_true (t x) (λ e. true≢false (sym (any_from t xs x i e) ∙ h))

pub any_none : {A : Type 0} (t : A → Bool) (xs : List A) → ((x : A) → In x xs → t x ≡ false) → list_any t xs ≡ false
any_none t xs h =
    false_from_ne_true (list_any t xs) (λ e. let r = any_in t xs e in true≢false (sym r.2 ∙ h r.0 r.1))

-- ---- find

-- what is found is one of them and passes the test, and where nothing is found none does
abbrev pub Found : {A : Type 0} → (A → Bool) → List A → Option A → Type 0
Found t xs None = (x : _) → In x xs → t x ≡ false
Found t xs (Some x) = In x xs × (t x ≡ true)

pub found : {A : Type 0} (t : A → Bool) (xs : List A) → Found t xs (find t xs)
found t [] = λ x i. absurd i
found {A} t (y ∷ ys) = go (t y) refl (find t ys) (found t ys)
  where
    go : (b : Bool) → t y ≡ b → (r : Option A) → Found t ys r → Found t (y ∷ ys) (cond b (Some y) r)
    go true e r f = (inl refl, e)
    go false e None f = λ x i. elim i [ inl k ↦ ap t k ∙ e | inr k ↦ f x k ]
    go false e (Some x) f = (inr f.0, f.1)

pub find_some : {A : Type 0} (t : A → Bool) (xs : List A) (x : A) → find t xs ≡ Some x → In x xs × (t x ≡ true)
find_some t xs x h = subst (Found t xs) h (found t xs)

pub find_nothing : {A : Type 0} (t : A → Bool) (xs : List A) → find t xs ≡ None → (x : A) → In x xs → t x ≡ false
find_nothing t xs h = subst (Found t xs) h (found t xs)

pub find_none : {A : Type 0} (t : A → Bool) (xs : List A) → ((x : A) → In x xs → t x ≡ false) → find t xs ≡ None
find_none t [] h = refl
find_none t (y ∷ ys) h = rw (h y (inl refl)) (find_none t ys (λ x i. h x (inr i)))

pub find_one : {A : Type 0} (t : A → Bool) (xs : List A) (x : A) → In x xs → t x ≡ true → ((y : A) → In y xs → t y ≡ true → y ≡ x) → find t xs ≡ Some x
find_one t [] x i h u = absurd i
find_one t (y ∷ ys) x (inl k) h u = rw (sym (ap t k) ∙ h) (ap (λ z. Some z) (sym k))
find_one t (y ∷ ys) x (inr k) h u =
    elim (cases_Bool (t y)) [
      | inl e ↦ rw e (ap (λ z. Some z) (u y (inl refl) e))
      | inr e ↦ rw e (find_one t ys x k h (λ z j m. u z (inr j) m))
    ]

pub in_filter_map : {A B : Type 0} (h : A → Option B) (y : B) (xs : List A) → In y (filter_map h xs) → (x : A) × In x xs × (h x ≡ Some y)
in_filter_map h y [] i = absurd i
in_filter_map {A} {B} h y (x ∷ xs) i = go (h x) refl i (in_filter_map h y xs)
  where
    go : (o : Option B) → h x ≡ o → In y (cons_option o (filter_map h xs)) → (In y (filter_map h xs) → (x' : A) × In x' xs × (h x' ≡ Some y)) → (x' : A) × In x' (x ∷ xs) × (h x' ≡ Some y)
    go None e k ih = let r = ih k in (r.0, inr r.1, r.2)
    go (Some z) e (inl k) ih = (x, inl refl, e ∙ ap (λ (w : B). Some w) (sym k))
    go (Some z) e (inr k) ih = let r = ih k in (r.0, inr r.1, r.2)

pub filter_map_in : {A B : Type 0} (h : A → Option B) (x : A) (y : B) (xs : List A) → In x xs → h x ≡ Some y → In y (filter_map h xs)
filter_map_in h x y [] i e = absurd i
filter_map_in h x y (z ∷ zs) (inl k) e = rw (ap h (sym k) ∙ e) (inl refl)
filter_map_in {A} {B} h x y (z ∷ zs) (inr k) e = go (h z) (filter_map_in h x y zs k e)
  where
    go : (o : Option B) → In y (filter_map h zs) → In y (cons_option o (filter_map h zs))
    go None i = i
    go (Some w) i = inr i

-- ---- parts of lists

pub filter_all : {A : Type 0} (t : A → Bool) (xs : List A) → ((x : A) → In x xs → t x ≡ true) → filter t xs ≡ xs
filter_all t [] h = refl
filter_all t (x ∷ xs) h = rw (h x (inl refl)) (ap (λ l. x ∷ l) (filter_all t xs (λ y i. h y (inr i))))

pub filter_none : {A : Type 0} (t : A → Bool) (xs : List A) → ((x : A) → In x xs → t x ≡ false) → filter t xs ≡ []
filter_none t [] h = refl
filter_none t (x ∷ xs) h = rw (h x (inl refl)) (filter_none t xs (λ y i. h y (inr i)))

pub filter_same : {A : Type 0} (t s : A → Bool) (xs : List A) → ((x : A) → In x xs → t x ≡ s x) → filter t xs ≡ filter s xs
filter_same t s [] h = refl
filter_same t s (x ∷ xs) h = rw (h x (inl refl), filter_same t s xs (λ y i. h y (inr i))) refl

pub filter_filter : {A : Type 0} (t s : A → Bool) (xs : List A) → filter t (filter s xs) ≡ filter (λ x. s x && t x) xs
filter_filter t s [] = refl
filter_filter {A} t s (x ∷ xs) = go (s x) (t x) refl (filter_filter t s xs)
  where
    go : (b c : Bool) → t x ≡ c → filter t (filter s xs) ≡ filter (λ x. s x && t x) xs → filter t (cond b (x ∷ filter s xs) (filter s xs)) ≡ cond (b && c) (x ∷ filter (λ x. s x && t x) xs) (filter (λ x. s x && t x) xs)
    go true true k e = rw k (ap (λ l. x ∷ l) e)
    go true false k e = rw k e
    go false c k e = e

pub filter_reverse : {A : Type 0} (t : A → Bool) (xs : List A) → filter t (reverse xs) ≡ reverse (filter t xs)
filter_reverse t [] = refl
filter_reverse {A} t (x ∷ xs) =
    ap (filter t) (reverse_cons x xs) ∙ filter-append t (reverse xs) (x ∷ []) ∙ ap (λ (l : List A). l ++ filter t (x ∷ [])) (filter_reverse t xs) ∙ go (t x)
  where
    go : (b : Bool) → reverse (filter t xs) ++ cond b (x ∷ []) [] ≡ reverse (cond b (x ∷ filter t xs) (filter t xs))
    go true = sym (reverse_cons x (filter t xs))
    go false = append-nil (reverse (filter t xs))

pub map_reverse : {A B : Type 0} (f : A → B) (xs : List A) → map f (reverse xs) ≡ reverse (map f xs)
map_reverse f [] = refl
map_reverse f (x ∷ xs) = ap (map f) (reverse_cons x xs) ∙ map-append f (reverse xs) (x ∷ []) ∙ ap (λ l. l ++ f x ∷ []) (map_reverse f xs) ∙ sym (reverse_cons (f x) (map f xs))

pub map_filter : {A B : Type 0} (f : A → B) (t : B → Bool) (xs : List A) → map f (filter (λ x. t (f x)) xs) ≡ filter t (map f xs)
map_filter f t [] = refl
map_filter {A} {B} f t (x ∷ xs) = go (t (f x)) (map_filter f t xs)
  where
    go : (b : Bool) → map f (filter (λ x. t (f x)) xs) ≡ filter t (map f xs) → map f (cond b (x ∷ filter (λ x. t (f x)) xs) (filter (λ x. t (f x)) xs)) ≡ cond b (f x ∷ filter t (map f xs)) (filter t (map f xs))
    go true e = ap (λ l. f x ∷ l) e
    go false e = e

-- ---- bytes

pub bytes_same : (xs : List ℕ) → bytes_eq xs xs ≡ true
bytes_same xs = (bytes_eq-Decides xs xs).1 refl

pub bytes_true : (xs ys : List ℕ) → bytes_eq xs ys ≡ true → xs ≡ ys
bytes_true xs ys h = (bytes_eq-Decides xs ys).0 h

pub bytes_equal : (xs ys : List ℕ) → xs ≡ ys → bytes_eq xs ys ≡ true
bytes_equal xs ys e = (bytes_eq-Decides xs ys).1 e
