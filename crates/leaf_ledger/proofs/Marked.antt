-- What marking a leaf does to a ledger's file, also where a crash cuts it short.
use Rattle.std.proofs.Common.{◌≡◌, ◌≢◌, ◌⊎◌, inl, inr, ℕ, ◌+◌, ◌-◌, ◌<◌, Bool, true, false, not, ◌||◌, ◌==◌, nat_eq, List, [], ◌∷◌, ◌++◌, length, drop, get_or, set, refl, sym, ◌∙◌, ap, arith}
use Rattle.std.specs.List.{filter}
use Rattle.std.proofs.Math.Seq.{drop-append_seam}
use Rattle.std.proofs.lemmas.Bool.{cases_eq, cases_lt}
use Rattle.std.proofs.lemmas.Bool.Decides.{nat_tests}
use Rattle.std.proofs.lemmas.List.{set-append_right, get_or_past, get_or-append-add, get_or-set_same, get_or-set_other, length-append}
use Rattle.leaf_ledger.specs.Device.{Torn, extent, written}
use Rattle.leaf_ledger.specs.Ledger.{is_used, UsedWith, UsedWithOrWithout, IsLeastFree, IsFileOf, free_leaves}
use Rattle.leaf_ledger.specs.Writes.{written_one, torn_front}

either : (b : Bool) → (b ≡ true) ⊎ (b ≡ false)
either true = inl refl
either false = inr refl

-- a torn mark changes no other
other : (file c : List ℕ) (n m : ℕ) → 56 + n < length file → m ≢ n → Torn file (extent (56 + n) 1 ∷ []) c → get_or c (56 + m) 0 ≡ get_or file (56 + m) 0
other file c n m below apart torn = elim (cases_lt (56 + m) (length file)) [
  | inl inside ↦ torn.outside (56 + m) inside (elim (cases_lt m n) [ inl less ↦ (inl (omega arith), tt) | inr more ↦ (inr (omega arith), tt) ])
  | inr past ↦ get_or_past c (56 + m) 0 (omega (arith, torn.no_longer)) ∙ sym (get_or_past file (56 + m) 0 past)
]

pub same_leaf : (m n : ℕ) → m ≡ n → nat_eq m n ≡ true
same_leaf m n same = grind (arith, nat_tests)

pub other_leaf : (m n : ℕ) → m ≢ n → nat_eq m n ≡ false
other_leaf m n apart = grind (arith, nat_tests)

-- what was with one leaf more, leaf by leaf
pub with_leaf : (file c : List ℕ) (n : ℕ) → is_used c n ≡ true → ((m : ℕ) → m ≢ n → is_used c m ≡ is_used file m) → UsedWith n file c
with_leaf file c n there others m = elim (cases_eq m n) [
  | inl same ↦ ap (λ (k : ℕ). is_used c k) same ∙ there ∙ sym (ap (λ (b : Bool). b || is_used file m) (same_leaf m n same))
  | inr apart ↦ others m apart ∙ sym (ap (λ (b : Bool). b || is_used file m) (other_leaf m n apart))
]

-- a torn mark is there or it isn't
pub torn_mark : (file c : List ℕ) (n : ℕ) → 56 + n < length file → is_used file n ≡ false → Torn file (extent (56 + n) 1 ∷ []) c → UsedWithOrWithout n file c
torn_mark file c n below free torn = elim (either (is_used c n)) [
  | inl there ↦ inr (with_leaf file c n there others)
  | inr gone ↦ inl (λ m. elim (cases_eq m n) [
    | inl same ↦ ap (λ (k : ℕ). is_used c k) same ∙ gone ∙ sym free ∙ ap (λ (k : ℕ). is_used file k) (sym same)
    | inr apart ↦ others m apart
  ])
]
  where
    others : (m : ℕ) → m ≢ n → is_used c m ≡ is_used file m
    others m apart = ap (λ (x : ℕ). not (x == 0)) (other file c n m below apart torn)

module _ (key marks : List ℕ) (key_size : length key ≡ 56) where
  abbrev pub file : List ℕ
  file = key ++ marks

  pub used_at : (m : ℕ) → is_used (key ++ marks) m ≡ not (get_or marks m 0 == 0)
  used_at m =
      let place : 56 + m ≡ length key + m = omega (arith, key_size) in
      ap (λ (k : ℕ). not (get_or (key ++ marks) k 0 == 0)) place ∙ ap (λ (x : ℕ). not (x == 0)) (get_or-append-add key marks m 0)

  pub used_there : (m : ℕ) → get_or marks m 0 ≢ 0 → is_used (key ++ marks) m ≡ true
  used_there m there = used_at m ∙ grind (arith, nat_tests)

  pub free_there : (m : ℕ) → get_or marks m 0 ≡ 0 → is_used (key ++ marks) m ≡ false
  free_there m free = used_at m ∙ ap (λ (x : ℕ). not (x == 0)) free

  -- the leaves that aren't used, counted by the marks
  pub count_marks : length (filter (λ mark. mark == 0) marks) ≡ free_leaves (key ++ marks)
  count_marks =
      let after : drop 56 (key ++ marks) ≡ marks = ap (λ (k : ℕ). drop k (key ++ marks)) (sym key_size) ∙ drop-append_seam key marks in
      ap (λ (l : List ℕ). length (filter (λ mark. mark == 0) l)) (sym after)

  module _ (n : ℕ) (below : n < length marks) where
    pub marked : written (56 + n) (1 ∷ []) (key ++ marks) ≡ key ++ set marks n 1
    marked =
        written_one (key ++ marks) (56 + n) 1 (omega (arith, below, key_size, length-append key marks))
        ∙ set-append_right key marks 56 (56 + n) 1 key_size (omega arith)
        ∙ (let same : 56 + n - 56 ≡ n = omega arith in ap (λ (k : ℕ). key ++ set marks k 1) same)

    pub least : n < 1024 → get_or marks n 0 ≡ 0 → ((k : ℕ) → k < n → get_or marks k 0 ≢ 0) → IsLeastFree (key ++ marks) n
    least small free used = record { below = small; free = free_there n free; least = λ i less. used_there i (used i less) }

-- there is one least free leaf
pub one_least : (f : List ℕ) (m n : ℕ) → IsLeastFree f m → IsLeastFree f n → m ≡ n
one_least f m n a b = elim (cases_lt m n) [
  | inl less ↦ let two : true ≡ false = sym (b.least m less) ∙ a.free in absurd (cc two)
  | inr more ↦ elim (cases_lt n m) [
    | inl less ↦ let two : true ≡ false = sym (a.least n less) ∙ b.free in absurd (cc two)
    | inr same ↦ omega arith
  ]
]

-- what marking leaves the leaves as
pub used_with : (key marks : List ℕ) (n : ℕ) → length key ≡ 56 → n < length marks → UsedWith n (key ++ marks) (key ++ set marks n 1)
used_with key marks n size below = with_leaf (key ++ marks) (key ++ set marks n 1) n there others
  where
    there : is_used (key ++ set marks n 1) n ≡ true
    there = used_at key (set marks n 1) size n ∙ ap (λ (x : ℕ). not (x == 0)) (get_or-set_same marks n 1 0 below)

    others : (m : ℕ) → m ≢ n → is_used (key ++ set marks n 1) m ≡ is_used (key ++ marks) m
    others m apart = used_at key (set marks n 1) size m ∙ ap (λ (x : ℕ). not (x == 0)) (get_or-set_other marks n m 1 0 apart) ∙ sym (used_at key marks size m)

-- a torn mark leaves a file of the same key
pub torn_own : (key file left : List ℕ) (n : ℕ) → IsFileOf key file → 56 + n < length file → Torn file (extent (56 + n) 1 ∷ []) left → IsFileOf key left
torn_own key file left n own below torn = (
  omega (arith, own.0, below, torn.no_shorter, torn.no_longer),
  torn_front file left 56 (extent (56 + n) 1 ∷ []) (omega arith, tt) (omega (arith, own.0)) torn ∙ own.1,
)
