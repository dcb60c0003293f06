-- Nobody has to believe this file: laws, which are proved.
-- The laws of rows that ascend by a key.
use Rattle.std.proofs.Common.{◌≡◌, ℕ, zero, suc, ◌+◌, ◌<◌, ◌≤◌, Bool, true, false, cond, List, [], ◌∷◌, ◌++◌, length, get_or, Option, Some, None, Result, Ok, Err, refl, sym, ap, subst, ◌∙◌, arith}
use Rattle.std.specs.Prelude.{MatchResult, slice_index_or}
use Rattle.std.specs.Cmp.{IsTotalOrder}
use Rattle.std.specs.List.{All, slice_set, insert, remove}
use Rattle.std.specs.List.Sorted.{IsBinarySearchResult, IsSearchInRange, IsNonDecreasingBy, IsSortedBy}
use Rattle.std.specs.Ordering.{is_lt, is_eq, ordering_reverse, ordering_index}
use Rattle.std.specs.declared.cmp.Ordering.{Ordering}
use Rattle.std.specs.declared.cmp.Ordering.TheVariants.{Less, Equal, Greater}
use Rattle.std.proofs.lemmas.Cmp.{tied_back, tied_itself, alike_right, eq_by_cmp_equiv}
use Rattle.std.proofs.lemmas.List.Sorted.{searchable_from_sorted}
use Rattle.std.proofs.lemmas.List.Elements.{All-nil, All-head, All-tail, All-cons}
use Rattle.layout.specs.Format.{RowAfter, after_row, FitRows}
use Rattle.layout.specs.Ascending.{above, Ascends, row_at, with_row, without_row, Stands, IsFree}

is_less : (o : Ordering) → is_lt o ≡ true → o ≡ Less
is_less Less h = refl
is_less Equal h = absurd cc
is_less Greater h = absurd cc

some_is : {A : Type 0} {x y : A} → Some x ≡ Some y → x ≡ y
some_is e = cc

either_way : {A : Type 0} (t : Bool) (x : A) → x ≡ cond t x x
either_way true x = refl
either_way false x = refl

-- ---- rows in two lists, of which one has no row with the key

module _ {T K : Type 0} (cmp : K → K → Ordering) (key : T → K) where
  abbrev pub HasOther : K → T → Type 0
  HasOther k x = is_eq (cmp (key x) k) ≡ false

  pub no_row : (xs : List T) (k : K) → All (HasOther k) xs → row_at cmp key xs k ≡ None
  no_row [] k all = refl
  no_row (x ∷ xs) k all = rw (All-head (HasOther k) x xs all) (no_row xs k (All-tail (HasOther k) x xs all))

  pub row_in_last : (xs ys : List T) (k : K) → All (HasOther k) xs → row_at cmp key (xs ++ ys) k ≡ row_at cmp key ys k
  row_in_last [] ys k all = refl
  row_in_last (x ∷ xs) ys k all = rw (All-head (HasOther k) x xs all) (row_in_last xs ys k (All-tail (HasOther k) x xs all))

  pub row_in_first : (xs ys : List T) (k : K) → All (HasOther k) ys → row_at cmp key (xs ++ ys) k ≡ row_at cmp key xs k
  row_in_first [] ys k all = no_row ys k all
  row_in_first (x ∷ xs) ys k all = ap (λ (o : Option T). cond (is_eq (cmp (key x) k)) (Some x) o) (row_in_first xs ys k all)

module _ {T K : Type 0} (cmp : K → K → Ordering) (key : T → K) (total : IsTotalOrder cmp) where
  turned : (a b : K) (o : Ordering) → cmp a b ≡ o → cmp b a ≡ ordering_reverse o
  turned a b o h = total.antisymm b a ∙ ap ordering_reverse h

  -- ---- what stands after a row

  greater_following : (x : T) (xs : List T) → Ascends cmp key (Some x) xs → (i : ℕ) (d : T) → i < length xs → cmp (key x) (key (slice_index_or xs i d)) ≡ Less
  unfolding Ascends
  greater_following x [] up i d lt = absurd (omega arith)
  greater_following x (y ∷ ys) up zero d lt = is_less _ up.0
  greater_following x (y ∷ ys) up (suc i) d lt = total.trans (key x) (key y) (key (slice_index_or ys i d)) (is_less _ up.0) (greater_following y ys up.1 i d (omega arith))

  -- what is above a row is above what the row is above
  further : (b : Option T) (x : T) (k : K) → above cmp key b (key x) ≡ true → cmp (key x) k ≡ Less → above cmp key b k ≡ true
  further None x k h less = refl
  further (Some y) x k h less = ap is_lt (total.trans (key y) (key x) k (is_less _ h) less)

  sorted : (b : Option T) (xs : List T) → Ascends cmp key b xs → IsSortedBy (λ x y. is_lt (cmp (key x) (key y))) xs
  unfolding Ascends
  sorted b [] up k d low high = absurd (omega arith)
  sorted b (x ∷ xs) up zero d low high = ap is_lt (turned (key x) (key (slice_index_or xs 0 d)) Less (greater_following x xs up.1 0 d (omega arith)))
  sorted b (x ∷ xs) up (suc k) d low high =
      let next : suc k + 1 ≡ suc (k + 1) = omega arith in
      rw next (sorted (Some x) xs up.1 k d (omega arith) (omega arith))

  searchable : (b : Option T) (xs : List T) (k : K) → Ascends cmp key b xs → IsNonDecreasingBy (λ y. ordering_index (cmp (key y) k)) xs
  searchable b xs k up = searchable_from_sorted total key xs k (sorted b xs up)

  -- ---- where a key stands

  stands : (b : Option T) (xs : List T) (k : K) (i : ℕ) → Ascends cmp key b xs → i < length xs → ((d : T) → cmp (key (slice_index_or xs i d)) k ≡ Equal) → Stands cmp key xs k i
  unfolding Ascends
  stands b [] k i up lt here = absurd (omega arith)
  stands b (x ∷ xs) k zero up lt here =
      let same : cmp (key x) k ≡ Equal = here x in
      record {
        inside = lt;
        found = λ d. rw same refl;
        sets = λ y e. rw (e, same) refl;
        removes = rw same refl;
      }
  stands b (x ∷ xs) k (suc i) up lt here =
      let later = stands (Some x) xs k i up.1 (omega arith) here in
      let less : cmp (key x) k ≡ Less = sym (alike_right total (key (slice_index_or xs i x)) k (key x) (here x)) ∙ greater_following x xs up.1 i x (omega arith) in
      record {
        inside = lt;
        found = λ d. rw less (later.found d);
        sets = λ y e. rw (e, less) (ap (λ (r : List T). x ∷ r) (later.sets y e));
        removes = rw less (ap (λ (r : List T). x ∷ r) later.removes);
      }

  free : (xs : List T) (k : K) (i : ℕ) → i ≤ length xs → ((j : ℕ) (d : T) → j < i → cmp (key (slice_index_or xs j d)) k ≡ Less) → ((j : ℕ) (d : T) → i ≤ j → j < length xs → cmp (key (slice_index_or xs j d)) k ≡ Greater) → IsFree cmp key xs k i
  free [] k zero le below more = record { inside = le; found = refl; inserts = λ x e. refl; removes = refl }
  free [] k (suc i) le below more = absurd (omega arith)
  free (x ∷ xs) k zero le below more =
      let greater : cmp (key x) k ≡ Greater = more 0 x (omega arith) (omega arith) in
      let later = free xs k 0 (omega arith) (λ j d lt. absurd (omega arith)) (λ j d from lt. more (suc j) d (omega arith) (omega arith)) in
      record {
        inside = le;
        found = rw greater later.found;
        inserts = λ y e. rw (e, greater) refl;
        removes = rw greater (ap (λ (r : List T). x ∷ r) later.removes);
      }
  free (x ∷ xs) k (suc i) le below more =
      let less : cmp (key x) k ≡ Less = below 0 x (omega arith) in
      let later = free xs k i (omega arith) (λ j d lt. below (suc j) d (omega arith)) (λ j d from lt. more (suc j) d (omega arith) (omega arith)) in
      record {
        inside = le;
        found = rw less later.found;
        inserts = λ y e. rw (e, less) (ap (λ (r : List T). x ∷ r) (later.inserts y e));
        removes = rw less (ap (λ (r : List T). x ∷ r) later.removes);
      }

  -- what a binary search by the key answers
  pub searched : (xs : List T) → Ascends cmp key None xs → (k : K) (r : Result ℕ ℕ) → IsSearchInRange r (length xs) → IsBinarySearchResult (λ x. cmp (key x) k) xs r → MatchResult r (Stands cmp key xs k) (IsFree cmp key xs k)
  searched xs up k (Ok i) inside equal = stands None xs k i up inside equal
  searched xs up k (Err i) inside parted =
      let parts = parted (searchable None xs k up) in
      free xs k i inside (λ j d lt. parts.0 j d (omega arith) lt) (λ j d from lt. parts.1 j d from lt)

  -- ---- the rows with one more, and with one less

  -- a row below: the key is its own, or is looked for after it
  with_below : (y x : T) (ys : List T) (q : K) (o : Ordering) → cmp (key y) (key x) ≡ Less → cmp (key y) q ≡ o → row_at cmp key (with_row cmp key ys x) q ≡ cond (is_eq (cmp (key x) q)) (Some x) (row_at cmp key ys q)
      → cond (is_eq (cmp (key y) q)) (Some y) (row_at cmp key (with_row cmp key ys x) q) ≡ cond (is_eq (cmp (key x) q)) (Some x) (cond (is_eq (cmp (key y) q)) (Some y) (row_at cmp key ys q))
  with_below y x ys q Less h e later = rw e later
  with_below y x ys q Greater h e later = rw e later
  with_below y x ys q Equal h e later =
      let other : cmp (key x) q ≡ Greater = sym (alike_right total (key y) q (key x) e) ∙ turned (key y) (key x) Less h in
      rw (e, other) refl

  with_step : (y x : T) (ys : List T) (q : K) (o : Ordering) → cmp (key y) (key x) ≡ o → row_at cmp key (with_row cmp key ys x) q ≡ cond (is_eq (cmp (key x) q)) (Some x) (row_at cmp key ys q)
      → row_at cmp key (with_row cmp key (y ∷ ys) x) q ≡ cond (is_eq (cmp (key x) q)) (Some x) (row_at cmp key (y ∷ ys) q)
  with_step y x ys q Less h later = rw h (with_below y x ys q (cmp (key y) q) h refl later)
  with_step y x ys q Greater h later = rw h refl
  with_step y x ys q Equal h later =
      let alike : cmp (key y) q ≡ cmp (key x) q = total.congr (key y) (key x) q h in
      rw (h, alike) (elim (is_eq (cmp (key x) q)) as (λ t. cond t (Some x) (row_at cmp key ys q) ≡ cond t (Some x) (cond t (Some y) (row_at cmp key ys q))) [ true ↦ refl | false ↦ refl ])

  -- one more row is found at its key, and nothing else changes
  pub row_at-with_row : (xs : List T) (x : T) (q : K) → row_at cmp key (with_row cmp key xs x) q ≡ cond (is_eq (cmp (key x) q)) (Some x) (row_at cmp key xs q)
  row_at-with_row [] x q = refl
  row_at-with_row (y ∷ ys) x q = with_step y x ys q (cmp (key y) (key x)) refl (row_at-with_row ys x q)

  -- what ascends after a row ascends after any that is above no more
  ascends_following : (b c : Option T) (xs : List T) → ((x : T) → above cmp key b (key x) ≡ true → above cmp key c (key x) ≡ true) → Ascends cmp key b xs → Ascends cmp key c xs
  unfolding Ascends
  ascends_following b c [] more up = tt
  ascends_following b c (x ∷ xs) more up = (more x up.0, up.1)

  with_ascends : (b : Option T) (y x : T) (ys : List T) (o : Ordering) → cmp (key y) (key x) ≡ o → above cmp key b (key x) ≡ true → Ascends cmp key b (y ∷ ys) → (cmp (key y) (key x) ≡ Less → Ascends cmp key (Some y) (with_row cmp key ys x))
      → Ascends cmp key b (with_row cmp key (y ∷ ys) x)
  unfolding Ascends
  with_ascends b y x ys Less h up all later = rw h (all.0, later h)
  with_ascends b y x ys Equal h up all later = rw h (up, ascends_following (Some y) (Some x) ys (λ z above. ap is_lt (sym (total.congr (key y) (key x) (key z) h)) ∙ above) all.1)
  with_ascends b y x ys Greater h up all later = rw h (up, (ap is_lt (turned (key y) (key x) Greater h), all.1))

  -- it keeps the order
  pub ascends_with_row : (b : Option T) (xs : List T) (x : T) → above cmp key b (key x) ≡ true → Ascends cmp key b xs → Ascends cmp key b (with_row cmp key xs x)
  unfolding Ascends
  ascends_with_row b [] x up all = (up, tt)
  ascends_with_row b (y ∷ ys) x up all = with_ascends b y x ys (cmp (key y) (key x)) refl up all (λ less. ascends_with_row (Some y) ys x (ap is_lt less) all.1)

  pub length-with_row : (xs : List T) (x : T) → length (with_row cmp key xs x) ≤ length xs + 1
  length-with_row [] x = omega arith
  length-with_row (y ∷ ys) x =
      let later = length-with_row ys x in
      elim (is_lt (cmp (key y) (key x))) as (λ t. length (cond t (y ∷ with_row cmp key ys x) (cond (is_eq (cmp (key y) (key x))) (x ∷ ys) (x ∷ y ∷ ys))) ≤ length (y ∷ ys) + 1) [
        | true ↦ omega (arith, later)
        | false ↦ elim (is_eq (cmp (key y) (key x))) as (λ t. length (cond t (x ∷ ys) (x ∷ y ∷ ys)) ≤ length (y ∷ ys) + 1) [ true ↦ omega arith | false ↦ omega arith ]
      ]

  pub all_with_row : (P : T → Type 0) (xs : List T) (x : T) → P x → All P xs → All P (with_row cmp key xs x)
  all_with_row P [] x one all = All-cons P x [] one all
  all_with_row P (y ∷ ys) x one all =
      let later = all_with_row P ys x one (All-tail P y ys all) in
      elim (is_lt (cmp (key y) (key x))) as (λ t. All P (cond t (y ∷ with_row cmp key ys x) (cond (is_eq (cmp (key y) (key x))) (x ∷ ys) (x ∷ y ∷ ys)))) [
        | true ↦ All-cons P y _ (All-head P y ys all) later
        | false ↦ elim (is_eq (cmp (key y) (key x))) as (λ t. All P (cond t (x ∷ ys) (x ∷ y ∷ ys))) [
          | true ↦ All-cons P x ys one (All-tail P y ys all)
          | false ↦ All-cons P x (y ∷ ys) one all
        ]
      ]

  -- ---- what isn't there

  -- what a lesser or equal key passes, a greater one does
  past : (a b q : K) (o : Ordering) → cmp a q ≡ o → is_lt o ≡ false → cmp a b ≡ Less → cmp b q ≡ Greater
  past a b q Less e h less = absurd cc
  past a b q Equal e h less = sym (alike_right total a q b e) ∙ turned a b Less less
  past a b q Greater e h less = turned q b Less (total.trans q a b (turned a q Greater e) less)

  -- no key at or below a row stands after it
  pub none_following : (x : T) (xs : List T) (q : K) → Ascends cmp key (Some x) xs → is_lt (cmp (key x) q) ≡ false → row_at cmp key xs q ≡ None
  unfolding Ascends
  none_following x [] q up h = refl
  none_following x (y ∷ ys) q up h =
      let greater = past (key x) (key y) q (cmp (key x) q) refl h (is_less _ up.0) in
      rw greater (none_following y ys q up.1 (ap is_lt greater))

  without_here : (x : T) (xs : List T) (q : K) (o : Ordering) → cmp (key x) q ≡ o → Ascends cmp key (Some x) xs → row_at cmp key xs q ≡ cond (is_eq o) None (cond (is_eq o) (Some x) (row_at cmp key xs q))
  without_here x xs q Less h up = refl
  without_here x xs q Greater h up = refl
  without_here x xs q Equal h up = none_following x xs q up (ap is_lt h)

  without_apart : (x : T) (xs rest : List T) (k q : K) (o : Ordering) → cmp (key x) q ≡ o → is_eq (cmp (key x) k) ≡ false → row_at cmp key rest q ≡ cond (is_eq (cmp k q)) None (row_at cmp key xs q)
      → cond (is_eq o) (Some x) (row_at cmp key rest q) ≡ cond (is_eq (cmp k q)) None (cond (is_eq o) (Some x) (row_at cmp key xs q))
  without_apart x xs rest k q Less h apart later = later
  without_apart x xs rest k q Greater h apart later = later
  without_apart x xs rest k q Equal h apart later =
      let other : is_eq (cmp k q) ≡ false = (eq_by_cmp_equiv total).symm k q ∙ ap is_eq (sym (total.congr (key x) q k h)) ∙ apart in
      rw other refl

  without_step : (x : T) (xs : List T) (k q : K) (o : Ordering) → cmp (key x) k ≡ o → Ascends cmp key (Some x) xs → row_at cmp key (without_row cmp key xs k) q ≡ cond (is_eq (cmp k q)) None (row_at cmp key xs q)
      → row_at cmp key (without_row cmp key (x ∷ xs) k) q ≡ cond (is_eq (cmp k q)) None (row_at cmp key (x ∷ xs) q)
  without_step x xs k q Equal h up later =
      let alike : cmp (key x) q ≡ cmp k q = total.congr (key x) k q h in
      rw (h, alike) (without_here x xs q (cmp k q) alike up)
  without_step x xs k q Less h up later = rw h (without_apart x xs (without_row cmp key xs k) k q (cmp (key x) q) refl (ap is_eq h) later)
  without_step x xs k q Greater h up later = rw h (without_apart x xs (without_row cmp key xs k) k q (cmp (key x) q) refl (ap is_eq h) later)

  -- a row that is taken out isn't found, and nothing else changes
  pub row_at-without_row : (b : Option T) (xs : List T) (k q : K) → Ascends cmp key b xs → row_at cmp key (without_row cmp key xs k) q ≡ cond (is_eq (cmp k q)) None (row_at cmp key xs q)
  unfolding Ascends
  row_at-without_row b [] k q up = either_way (is_eq (cmp k q)) None
  row_at-without_row b (x ∷ xs) k q up = without_step x xs k q (cmp (key x) k) refl up.1 (row_at-without_row (Some x) xs k q up.1)

  -- what ascends after a row ascends after what the row is above
  pub ascends_earlier : (b : Option T) (x : T) (xs : List T) → above cmp key b (key x) ≡ true → Ascends cmp key (Some x) xs → Ascends cmp key b xs
  unfolding Ascends
  ascends_earlier b x [] up all = tt
  ascends_earlier b x (y ∷ ys) up all = (further b x (key y) up (is_less _ all.0), all.1)

  pub ascends_without_row : (b : Option T) (xs : List T) (k : K) → Ascends cmp key b xs → Ascends cmp key b (without_row cmp key xs k)
  unfolding Ascends
  ascends_without_row b [] k up = tt
  ascends_without_row b (x ∷ xs) k up =
      elim (is_eq (cmp (key x) k)) as (λ t. Ascends cmp key b (cond t xs (x ∷ without_row cmp key xs k))) [
        | true ↦ ascends_earlier b x xs up.0 up.1
        | false ↦ (up.0, ascends_without_row (Some x) xs k up.1)
      ]

  pub length-without_row : (xs : List T) (k : K) → length (without_row cmp key xs k) ≤ length xs
  length-without_row [] k = omega arith
  length-without_row (x ∷ xs) k =
      let later = length-without_row xs k in
      elim (is_eq (cmp (key x) k)) as (λ t. length (cond t xs (x ∷ without_row cmp key xs k)) ≤ length (x ∷ xs)) [ true ↦ omega arith | false ↦ omega (arith, later) ]

  pub all_without_row : (P : T → Type 0) (xs : List T) (k : K) → All P xs → All P (without_row cmp key xs k)
  all_without_row P [] k all = all
  all_without_row P (x ∷ xs) k all =
      let later = all_without_row P xs k (All-tail P x xs all) in
      elim (is_eq (cmp (key x) k)) as (λ t. All P (cond t xs (x ∷ without_row cmp key xs k))) [ true ↦ All-tail P x xs all | false ↦ All-cons P x _ (All-head P x xs all) later ]

  -- ---- one list a map

  found_itself : (x : T) (xs : List T) → row_at cmp key (x ∷ xs) (key x) ≡ Some x
  found_itself x xs = rw (tied_itself total (key x)) refl

  -- the first of one list is found at its key in the other, so it isn't below the first of that
  not_below : (x y : T) (xs ys : List T) → Ascends cmp key (Some y) ys → row_at cmp key (x ∷ xs) (key x) ≡ row_at cmp key (y ∷ ys) (key x) → cmp (key x) (key y) ≡ Less → ⊥
  not_below x y xs ys up same less =
      let greater : cmp (key y) (key x) ≡ Greater = turned (key x) (key y) Less less in
      let none : row_at cmp key (y ∷ ys) (key x) ≡ None = rw greater (none_following y ys (key x) up (ap is_lt greater)) in
      let clash : Some x ≡ None = sym (found_itself x xs) ∙ same ∙ none in
      absurd cc

  same_tails : (x y : T) (xs ys : List T) (q : K) (o : Ordering) → cmp (key x) q ≡ o → cmp (key y) q ≡ o → Ascends cmp key (Some x) xs → Ascends cmp key (Some y) ys → row_at cmp key (x ∷ xs) q ≡ row_at cmp key (y ∷ ys) q → row_at cmp key xs q ≡ row_at cmp key ys q
  same_tails x y xs ys q Less h k up down same = rw (h, k) at same
  same_tails x y xs ys q Equal h k up down same = none_following x xs q up (ap is_lt h) ∙ sym (none_following y ys q down (ap is_lt k))
  same_tails x y xs ys q Greater h k up down same = rw (h, k) at same

  first_same : (x y : T) (xs ys : List T) → cmp (key x) (key y) ≡ Equal → row_at cmp key (x ∷ xs) (key x) ≡ row_at cmp key (y ∷ ys) (key x) → x ≡ y
  first_same x y xs ys equal same =
      let back : cmp (key y) (key x) ≡ Equal = tied_back total (key x) (key y) equal in
      let found : row_at cmp key (y ∷ ys) (key x) ≡ Some y = rw back refl in
      some_is (sym (found_itself x xs) ∙ same ∙ found)

  same_step : (x y : T) (xs ys : List T) (o : Ordering) → cmp (key x) (key y) ≡ o → Ascends cmp key (Some x) xs → Ascends cmp key (Some y) ys → ((q : K) → row_at cmp key (x ∷ xs) q ≡ row_at cmp key (y ∷ ys) q) → (((q : K) → row_at cmp key xs q ≡ row_at cmp key ys q) → xs ≡ ys) → x ∷ xs ≡ y ∷ ys
  same_step x y xs ys Less h up down same later = absurd (not_below x y xs ys down (same (key x)) h)
  same_step x y xs ys Greater h up down same later = absurd (not_below y x ys xs up (sym (same (key y))) (turned (key x) (key y) Greater h))
  same_step x y xs ys Equal h up down same later =
      let tails = later (λ q. same_tails x y xs ys q (cmp (key x) q) refl (sym (total.congr (key x) (key y) q h)) up down (same q)) in
      ap (λ (z : T). z ∷ xs) (first_same x y xs ys h (same (key x))) ∙ ap (λ (zs : List T). y ∷ zs) tails

  -- rows that ascend are one list where they are one map
  pub same_rows : (b c : Option T) (xs ys : List T) → Ascends cmp key b xs → Ascends cmp key c ys → ((q : K) → row_at cmp key xs q ≡ row_at cmp key ys q) → xs ≡ ys
  unfolding Ascends
  same_rows b c [] [] up down same = refl
  same_rows b c [] (y ∷ ys) up down same = let clash : None ≡ Some y = same (key y) ∙ found_itself y ys in absurd cc
  same_rows b c (x ∷ xs) [] up down same = let clash : Some x ≡ None = sym (found_itself x xs) ∙ same (key x) in absurd cc
  same_rows b c (x ∷ xs) (y ∷ ys) up down same = same_step x y xs ys (cmp (key x) (key y)) refl up.1 down.1 same (λ tails. same_rows (Some x) (Some y) xs ys up.1 down.1 tails)

  -- ---- rows of a text

  -- a row of this format is one of these, above the one before
  pub record Ordered (row : RowAfter T) (Each : T → Type 0) : Type 0 where
    pub splits : (b : Option T) (x : T) → (row b).Fits x → Each x × (above cmp key b (key x) ≡ true)
    pub joins : (b : Option T) (x : T) → Each x → above cmp key b (key x) ≡ true → (row b).Fits x

  pub ascends_from_fits : (row : RowAfter T) (Each : T → Type 0) → Ordered row Each → (b : Option T) (xs : List T) → FitRows (after_row row) b xs → All Each xs × Ascends cmp key b xs
  unfolding FitRows Ascends
  ascends_from_fits row Each ordered b [] fits = (All-nil Each, tt)
  ascends_from_fits row Each ordered b (x ∷ xs) fits =
      let one = ordered.splits b x fits.0 in
      let later = ascends_from_fits row Each ordered (Some x) xs fits.1 in
      (All-cons Each x xs one.0 later.0, (one.1, later.1))

  pub fits_from_ascends : (row : RowAfter T) (Each : T → Type 0) → Ordered row Each → (b : Option T) (xs : List T) → All Each xs → Ascends cmp key b xs → FitRows (after_row row) b xs
  unfolding FitRows Ascends
  fits_from_ascends row Each ordered b [] all up = tt
  fits_from_ascends row Each ordered b (x ∷ xs) all up = (ordered.joins b x (All-head Each x xs all) up.0, fits_from_ascends row Each ordered (Some x) xs (All-tail Each x xs all) up.1)
