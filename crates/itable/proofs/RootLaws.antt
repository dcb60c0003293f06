-- The laws of a table's root.
use Rattle.std.proofs.Common.{◌≡◌, ◌≢◌, ℕ, zero, suc, ◌+◌, ◌<◌, ◌≤◌, true, List, [], ◌∷◌, ◌++◌, length, Option, Some, None, Ok, refl, sym, ap, subst, ◌∙◌, inl, inr, arith}
use Rattle.std.specs.Prelude.{filter_map}
use Rattle.std.specs.List.{range_with_len, cons_option}
use Rattle.std.proofs.lemmas.List.{append-nil}
use Rattle.std.proofs.lemmas.List.Elements.{filter_map-append}
use Rattle.std.specs.Int.{w8}
use Rattle.std.specs.Option.{option_map, option_or}
use Rattle.std.specs.Ordering.{nat_cmp, is_eq}
use Rattle.std.proofs.lemmas.Bool.{cases_eq, cases_lt}
use Rattle.std.proofs.lemmas.Cmp.{nat_cmp_total}
use Rattle.layout.specs.Format.{FitRows, after_row, raw, whole}
use Rattle.layout.specs.Laws.{listed_fits, whole_again}
use Rattle.layout.specs.Hash.{hash}
use Rattle.layout.specs.Ascending.{above, row_at}
use Rattle.layout.specs.AscendingLaws.{ascends_from_fits, same_rows}
use Rattle.itable.specs.declared.root.ListedChunk.{ListedChunk}
use Rattle.itable.specs.Root.{Root, root, chunk_row, number_of}
use Rattle.itable.specs.RootLaws.{lawful_root}
use Rattle.itable.specs.ITable.{ITable, IsListed, IsTable, unloaded_at, listing, listings, root_of, handle_of, text_of_chunk}
use Rattle.layout.specs.HashLaws.{hash_fits}
use Rattle.itable.proofs.ListedLaws.{some_is, row_holds, none_beyond, ordered, is_table_of}
use Rattle.itable.proofs.Runs.{less_from_lt, other_key, itself}

-- chunks by their numbers, as a root may list them
abbrev IsAtNumber : (ℕ → Option ListedChunk) → Type 0
IsAtNumber f = (n : ℕ) (c : ListedChunk) → f n ≡ Some c → (raw 32).Fits c.digest × (c.number ≡ n)

module _ (f : ℕ → Option ListedChunk) where
  abbrev listed_from : ℕ → ℕ → List ListedChunk
  listed_from a n = filter_map f (range_with_len a n)

  few_step : (a n : ℕ) (o : Option ListedChunk) → f a ≡ o → length (listed_from (a + 1) n) ≤ n → length (listed_from a (suc n)) ≤ suc n
  few_step a n None at later = rw at (omega arith)
  few_step a n (Some c) at later = rw at (omega arith)

  few_from : (a n : ℕ) → length (listed_from a n) ≤ n
  few_from a zero = omega arith
  few_from a (suc n) = few_step a n (f a) refl (few_from (a + 1) n)

module _ (f : ℕ → Option ListedChunk) (is : IsAtNumber f) where
  rows_step : (a n : ℕ) (b o : Option ListedChunk) → f a ≡ o → a < 64 → above nat_cmp number_of b a ≡ true
      → ((c : Option ListedChunk) → ((q : ℕ) → a + 1 ≤ q → above nat_cmp number_of c q ≡ true) → FitRows (after_row chunk_row) c (listed_from f (a + 1) n)) → ((q : ℕ) → a ≤ q → above nat_cmp number_of b q ≡ true) → FitRows (after_row chunk_row) b (listed_from f a (suc n))
  unfolding FitRows
  rows_step a n b None at small here later up = rw at (later b (λ q le. up q (omega arith)))
  rows_step a n b (Some c) at small here later up =
      let it = is a c at in
      let same : c.number ≡ a = it.1 in
      rw at (ordered.joins b c (omega (arith, same, small), it.0) (up c.number (omega (arith, same))), later (Some c) (λ q le. less_from_lt c.number q (omega (arith, same, le))))

  rows_from : (a n : ℕ) (b : Option ListedChunk) → a + n ≤ 64 → ((q : ℕ) → a ≤ q → above nat_cmp number_of b q ≡ true) → FitRows (after_row chunk_row) b (listed_from f a n)
  unfolding FitRows
  rows_from a zero b few up = tt
  rows_from a (suc n) b few up = rows_step a n b (f a) refl (omega arith) (up a (omega arith)) (λ c more. rows_from (a + 1) n c (omega arith) more) up

  past_step : (a n q : ℕ) (o : Option ListedChunk) → f a ≡ o → a ≢ q → row_at nat_cmp number_of (listed_from f a (suc n)) q ≡ row_at nat_cmp number_of (listed_from f (a + 1) n) q
  past_step a n q None at apart = rw at refl
  past_step a n q (Some c) at apart = rw at (rw (other_key c.number q (λ e. apart (sym (is a c at).1 ∙ e))) refl)

  none_from : (a n q : ℕ) → q < a → row_at nat_cmp number_of (listed_from f a n) q ≡ None
  none_from a zero q lt = refl
  none_from a (suc n) q lt = past_step a n q (f a) refl (λ e. omega arith) ∙ none_from (a + 1) n q (omega arith)

  here_step : (a n : ℕ) (o : Option ListedChunk) → f a ≡ o → row_at nat_cmp number_of (listed_from f a (suc n)) a ≡ f a
  here_step a n None at = rw at (none_from (a + 1) n a (omega arith))
  here_step a n (Some c) at =
      let key : is_eq (nat_cmp c.number a) ≡ true = rw (is a c at).1 (itself a) in
      rw at (rw key refl)

  found_from : (a n q : ℕ) → a ≤ q → q < a + n → row_at nat_cmp number_of (listed_from f a n) q ≡ f q
  found_from a zero q low high = absurd (omega arith)
  found_from a (suc n) q low high =
      elim (cases_eq a q) [
        | inl e ↦ rw (← e) (here_step a n (f a) refl)
        | inr e ↦ past_step a n q (f a) refl e ∙ found_from (a + 1) n q (omega arith) (omega arith)
      ]

-- ---- the chunks of a table

-- a chunk's listing, by its text
abbrev pub listed_as : ℕ → Option (List ℕ) → Option ListedChunk
listed_as n text = option_map (λ x. record { number = n; digest = hash x }) text

listing_step : (t : ITable) (n : ℕ) (c : ListedChunk) (o : Option ListedChunk) (text : Option (List ℕ)) → IsTable t → unloaded_at t n ≡ o → option_or o (listed_as n text) ≡ Some c → (raw 32).Fits c.digest × (c.number ≡ n)
listing_step t n c (Some x) text is at found =
    let held = row_holds IsListed t.unloaded n c is.of_unloaded (at ∙ found) in
    (held.0.1, held.1)
listing_step t n c None (Some text) is at found =
    subst (λ (x : ListedChunk). (raw 32).Fits x.digest × (x.number ≡ n)) (some_is found) (hash_fits text, refl)
listing_step t n c None None is at found = absurd cc

listing_is : (t : ITable) → IsTable t → IsAtNumber (listing t)
listing_is t is n c found = listing_step t n c (unloaded_at t n) (text_of_chunk t n) is refl found

pub few_listings : (t : ITable) → length (listings t) ≤ 64
unfolding listings
few_listings t = few_from (listing t) 0 64

rows_of : (t : ITable) → IsTable t → FitRows (after_row chunk_row) None (listings t)
unfolding listings
rows_of t is = rows_from (listing t) (listing_is t is) 0 64 None (omega arith) (λ q le. refl)

root_fits : (t : ITable) → IsTable t → root.Fits (root_of t)
root_fits t is = (is.of_principal, listed_fits w8 64 chunk_row (listings t) (omega arith) (few_listings t) (rows_of t is))

-- its text is read as it
pub root_reads : (t : ITable) → IsTable t → whole root (root.spell (root_of t)) ≡ Ok (root_of t)
root_reads t is = whole_again root lawful_root (root_of t) (root_fits t is)

-- it lists at a number the chunk of that number, if it isn't loaded or has pairs
pub lists : (t : ITable) (n : ℕ) → IsTable t → n < 64 → row_at nat_cmp number_of (root_of t).chunks n ≡ listing t n
unfolding listings
lists t n is small = found_from (listing t) (listing_is t is) 0 64 n (omega arith) (omega arith)

-- the root of an empty table lists none
pub listings_empty : (p : ℕ) → listings (record { principal = p; pairs = []; unloaded = [] }) ≡ []
unfolding listings text_of_chunk
listings_empty p = refl

-- ---- a table of which no chunk is loaded

or_none : (o : Option ListedChunk) → option_or o None ≡ o
or_none None = refl
or_none (Some c) = refl

module _ (p : ℕ) (chunks : List ListedChunk) (is : IsTable (record { principal = p; pairs = []; unloaded = chunks })) where
  abbrev bare : ITable
  bare = record { principal = p; pairs = []; unloaded = chunks }

  listing_bare : (n : ℕ) → listing bare n ≡ row_at nat_cmp number_of chunks n
  unfolding text_of_chunk
  listing_bare n = or_none (row_at nat_cmp number_of chunks n)

  -- its root lists them
  pub listings_bare : listings bare ≡ chunks
  listings_bare =
      let rows = ascends_from_fits nat_cmp number_of nat_cmp_total chunk_row IsListed ordered None (listings bare) (rows_of bare is) in
      same_rows nat_cmp number_of nat_cmp_total None None (listings bare) chunks rows.1 is.unloaded_ascend (λ n. elim (cases_lt n 64) [
        | inl near ↦ lists bare n is near ∙ listing_bare n
        | inr far ↦ none_beyond (listings bare) n rows.0 far ∙ sym (none_beyond chunks n is.of_unloaded far)
      ])

-- a chunk that isn't loaded, and one that is
pub unloaded_listed : (t : ITable) (n : ℕ) (c : ListedChunk) → unloaded_at t n ≡ Some c → listing t n ≡ Some c
unloaded_listed t n c at = ap (λ (o : Option ListedChunk). option_or o (listed_as n (text_of_chunk t n))) at

pub loaded_listed : (t : ITable) (n : ℕ) → unloaded_at t n ≡ None → listing t n ≡ listed_as n (text_of_chunk t n)
loaded_listed t n none = ap (λ (o : Option ListedChunk). option_or o (listed_as n (text_of_chunk t n))) none

pub listings_of_root : (r : Root) → root.Fits r → listings (record { principal = r.principal; pairs = []; unloaded = r.chunks }) ≡ r.chunks
listings_of_root r fits = listings_bare r.principal r.chunks (is_table_of r fits)

pub handle_of_root : (r : Root) → root.Fits r → handle_of (record { principal = r.principal; pairs = []; unloaded = r.chunks }) ≡ hash (root.spell r)
handle_of_root r fits = ap (λ (chunks : List ListedChunk). hash (root.spell (record { principal = r.principal; chunks = chunks }))) (listings_of_root r fits)

-- ---- the chunks one after the other

range_push : (a n : ℕ) → range_with_len a (suc n) ≡ range_with_len a n ++ (a + n) ∷ []
range_push a zero = let same : a ≡ a + 0 = omega arith in ap (λ (k : ℕ). k ∷ []) same
range_push a (suc n) =
    let same : a + 1 + n ≡ a + suc n = omega arith in
    ap (λ (ks : List ℕ). a ∷ ks) (range_push (a + 1) n ∙ ap (λ (k : ℕ). range_with_len (a + 1) n ++ k ∷ []) same)

module _ {X : Type 0} (f : ℕ → Option X) where
  push : (n : ℕ) → filter_map f (range_with_len 0 (n + 1)) ≡ filter_map f (range_with_len 0 n) ++ cons_option (f n) []
  push n =
      let more : n + 1 ≡ suc n = omega arith in
      let at : 0 + n ≡ n = omega arith in
      let range : range_with_len 0 (n + 1) ≡ range_with_len 0 n ++ n ∷ [] = ap (range_with_len 0) more ∙ range_push 0 n ∙ ap (λ (k : ℕ). range_with_len 0 n ++ k ∷ []) at in
      ap (filter_map f) range ∙ filter_map-append f (range_with_len 0 n) (n ∷ [])

  -- one more number that has something, and one that has nothing
  pub one_more : (n : ℕ) (old new : List X) (x : X) → old ≡ filter_map f (range_with_len 0 n) → Some x ≡ f n → new ≡ old ++ x ∷ [] → new ≡ filter_map f (range_with_len 0 (n + 1))
  one_more n old new x so_far here is =
      is ∙ ap (λ (front : List X). front ++ x ∷ []) so_far ∙ ap (λ (o : Option X). filter_map f (range_with_len 0 n) ++ cons_option o []) here ∙ sym (push n)

  pub none_more : (n : ℕ) (old : List X) → old ≡ filter_map f (range_with_len 0 n) → None ≡ f n → old ≡ filter_map f (range_with_len 0 (n + 1))
  none_more n old so_far here =
      so_far ∙ sym (append-nil (filter_map f (range_with_len 0 n))) ∙ ap (λ (o : Option X). filter_map f (range_with_len 0 n) ++ cons_option o []) here ∙ sym (push n)

  -- all 64
  pub all_told : (n : ℕ) (xs : List X) → n ≡ 64 → xs ≡ filter_map f (range_with_len 0 n) → xs ≡ filter_map f (range_with_len 0 64)
  all_told n xs end so_far = so_far ∙ ap (λ (k : ℕ). filter_map f (range_with_len 0 k)) end

pub all_listed : (t : ITable) (n : ℕ) (chunks : List ListedChunk) → n ≡ 64 → chunks ≡ filter_map (listing t) (range_with_len 0 n) → chunks ≡ listings t
unfolding listings
all_listed t n chunks end so_far = all_told (listing t) n chunks end so_far

known_step : (n : ℕ) (d : List ℕ) (text : Option (List ℕ)) → option_map hash text ≡ Some d → Some (record { number = n; digest = d }) ≡ listed_as n text
known_step n d None h = absurd cc
known_step n d (Some text) h = ap (λ (e : List ℕ). Some (record { number = n; digest = e })) (sym (some_is h))

-- a loaded chunk whose digest is known
pub known_listed : (t : ITable) (n : ℕ) (d : List ℕ) → unloaded_at t n ≡ None → option_map hash (text_of_chunk t n) ≡ Some d → Some (record { number = n; digest = d }) ≡ listing t n
known_listed t n d none h = known_step n d (text_of_chunk t n) h ∙ sym (loaded_listed t n none)
