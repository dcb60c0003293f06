-- Lists: what is found in them, and numbers that follow one another.
use Rattle.std.proofs.Common.{◌≡◌, ℕ, zero, suc, ◌+◌, ◌<◌, ◌≤◌, Bool, true, false, ◌||◌, List, [], ◌∷◌, ◌++◌, Option, Some, None, find, refl, sym, ap, ◌∙◌, inl, inr, if◌then◌else◌, arith}
use Rattle.std.specs.Prelude.{filter_map}
use Rattle.std.specs.List.{cons_option, range_with_len}
use Rattle.std.proofs.lemmas.Bool.{cases_eq}
use Rattle.agreement.proofs.Members.{In}

-- ---- found

pub found_some : {A : Type 0} (t : A → Bool) (xs : List A) (x : A) → In x xs → t x ≡ true → (y : A) × (find t xs ≡ Some y)
found_some t [] x i e = absurd i
found_some {A} t (z ∷ zs) x i e = go (t z) refl i (λ j. found_some t zs x j e)
  where
    go : (b : Bool) → t z ≡ b → In x (z ∷ zs) → (In x zs → (y : A) × (find t zs ≡ Some y)) → (y : A) × ((if b then Some z else find t zs) ≡ Some y)
    go true is j ih = (z, refl)
    go false is (inl same) ih = absurd (cc (sym is ∙ ap t (sym same) ∙ e))
    go false is (inr j) ih = ih j

pub found_in : {A : Type 0} (t : A → Bool) (xs : List A) (x : A) → find t xs ≡ Some x → In x xs × (t x ≡ true)
found_in t [] x e = absurd (cc e)
found_in {A} t (y ∷ ys) x e = go (t y) refl e (found_in t ys x)
  where
    go : (b : Bool) → t y ≡ b → (if b then Some y else find t ys) ≡ Some x → (find t ys ≡ Some x → In x ys × (t x ≡ true)) → In x (y ∷ ys) × (t x ≡ true)
    go true is same ih = let one : y ≡ x = cc same in (inl (sym one), ap t (sym one) ∙ is)
    go false is same ih = let r = ih same in (inr r.0, r.1)

pub in-filter_map : {A B : Type 0} (f : A → Option B) (xs : List A) (y : B) → In y (filter_map f xs) → (x : A) × In x xs × (f x ≡ Some y)
in-filter_map f [] y i = absurd i
in-filter_map {A} {B} f (x ∷ xs) y i = go (f x) refl i (in-filter_map f xs y)
  where
    go : (o : Option B) → f x ≡ o → In y (cons_option o (filter_map f xs)) → (In y (filter_map f xs) → (z : A) × In z xs × (f z ≡ Some y)) → (z : A) × In z (x ∷ xs) × (f z ≡ Some y)
    go None at j ih = let r = ih j in (r.0, inr r.1, r.2)
    go (Some z) at (inl e) ih = (x, inl refl, at ∙ ap (λ (w : B). Some w) (sym e))
    go (Some z) at (inr j) ih = let r = ih j in (r.0, inr r.1, r.2)

pub filter_map-in : {A B : Type 0} (f : A → Option B) (xs : List A) (x : A) (y : B) → In x xs → f x ≡ Some y → In y (filter_map f xs)
filter_map-in f [] x y i e = absurd i
filter_map-in {A} {B} f (z ∷ zs) x y (inl same) e = let here : f z ≡ Some y = ap f (sym same) ∙ e in rw here (inl refl)
filter_map-in {A} {B} f (z ∷ zs) x y (inr i) e = go (f z) (filter_map-in f zs x y i e)
  where
    go : (o : Option B) → In y (filter_map f zs) → In y (cons_option o (filter_map f zs))
    go None ih = ih
    go (Some w) ih = inr ih

pub filter_map-last : {A B : Type 0} (f : A → Option B) (xs : List A) (x : A) (y : B) → f x ≡ Some y → filter_map f (xs ++ x ∷ []) ≡ filter_map f xs ++ y ∷ []
filter_map-last f [] x y e = rw e refl
filter_map-last {A} {B} f (z ∷ zs) x y e = go (f z) (filter_map-last f zs x y e)
  where
    go : (o : Option B) → filter_map f (zs ++ x ∷ []) ≡ filter_map f zs ++ y ∷ [] → cons_option o (filter_map f (zs ++ x ∷ [])) ≡ cons_option o (filter_map f zs) ++ y ∷ []
    go None ih = ih
    go (Some w) ih = ap (λ (ys : List B). w ∷ ys) ih

-- ---- numbers

pub range_more : (a n : ℕ) → range_with_len a (suc n) ≡ range_with_len a n ++ (a + n) ∷ []
range_more a zero = let same : a + 0 ≡ a = omega arith in ap (λ (k : ℕ). k ∷ []) (sym same)
range_more a (suc n) =
    let same : a + 1 + n ≡ a + suc n = omega arith in
    let rest : range_with_len (a + 1) (suc n) ≡ range_with_len (a + 1) n ++ (a + 1 + n) ∷ [] = range_more (a + 1) n in
    ap (λ (xs : List ℕ). a ∷ xs) (rest ∙ ap (λ (k : ℕ). range_with_len (a + 1) n ++ k ∷ []) same)

pub next_number : (n : ℕ) → range_with_len 1 (n + 1) ≡ range_with_len 1 n ++ (n + 1) ∷ []
next_number n =
    let one : n + 1 ≡ suc n = omega arith in
    let same : 1 + n ≡ n + 1 = omega arith in
    ap (range_with_len 1) one ∙ range_more 1 n ∙ ap (λ (k : ℕ). range_with_len 1 n ++ k ∷ []) same

pub in_range_list : (a k n : ℕ) → a ≤ n → n < a + k → In n (range_with_len a k)
in_range_list a zero n low high = absurd (omega arith)
in_range_list a (suc k) n low high = elim (cases_eq a n) [ inl e ↦ inl (sym e) | inr ne ↦ inr (in_range_list (a + 1) k n (omega arith) (omega arith)) ]

-- ---- tests

pub neither : (a b : Bool) → (a || b) ≡ false → (a ≡ false) × (b ≡ false)
neither true b e = absurd (cc e)
neither false b e = (refl, e)
