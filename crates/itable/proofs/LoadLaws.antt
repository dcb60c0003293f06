-- A table takes in a chunk that wasn't loaded.
use Rattle.std.proofs.Common.{◌≡◌, ◌≢◌, ℕ, zero, suc, ◌+◌, ◌<◌, ◌≤◌, Bool, true, false, cond, List, [], ◌∷◌, ◌++◌, length, take, drop, set, Option, Some, None, refl, sym, ap, subst, ◌∙◌, inl, inr, arith}
use Rattle.std.specs.Prelude.{◌==◌, ◌||◌, not, filter, filter_map, if◌then◌else◌}
use Rattle.std.specs.Int.{w8}
use Rattle.std.specs.List.{All, AllWithin, range_with_len, cons_option}
use Rattle.std.specs.Option.{is_some, option_or}
use Rattle.std.specs.Ordering.{nat_cmp, is_eq}
use Rattle.std.proofs.Math.Bool.{or-false}
use Rattle.std.proofs.lemmas.Bool.{cases_eq, cases_lt, eqb-true, eq-eqb, ne_eqb}
use Rattle.std.proofs.lemmas.Cmp.{nat_cmp_total}
use Rattle.std.proofs.lemmas.List.{append-nil, take-append-drop, length-take-le, length-drop, get_or-take, get_or-drop, take_all, drop_all}
use Rattle.std.proofs.lemmas.List.Elements.{All-append, All-cons, All-drop, All-from_get_or, All-get_or, All-head, All-nil, All-tail, All-take, All-weaker, filter-append}
use Rattle.layout.specs.Hash.{hash}
use Rattle.layout.specs.Laws.{in_range}
use Rattle.layout.specs.Ascending.{above, Ascends, without_row}
use Rattle.layout.specs.AscendingLaws.{Ordered, all_without_row, ascends_from_fits, ascends_without_row, row_at-without_row}
use Rattle.itable.specs.declared.chunk.Pair.{Pair}
use Rattle.itable.specs.declared.root.ListedChunk.{ListedChunk}
use Rattle.itable.specs.Chunk.{Chunk, chunk, chunk_number, i_number_of, pair_row}
use Rattle.itable.specs.Root.{root, number_of}
use Rattle.itable.specs.ITable.{ITable, IsPair, IsListed, IsTable, unloaded_at, loaded, digest_at, digest_in, is_in, listing, listings, text_of_chunk, handle_of}
use Rattle.itable.specs.Known.{IsKept}
use Rattle.itable.proofs.ChunkLaws.{in_chunk}
use Rattle.itable.proofs.KnownLaws.{Known, keeps_others, keeps_more, text_by_pairs}
use Rattle.itable.proofs.RootLaws.{listed_as, loaded_listed, unloaded_listed}
use Rattle.itable.proofs.Runs.{less_from_lt, other_key, itself}

-- the last of two settings stays
set_twice : {X : Type 0} (xs : List X) (i : ℕ) (x y : X) → set (set xs i x) i y ≡ set xs i y
set_twice [] i x y = refl
set_twice (z ∷ zs) zero x y = refl
set_twice {X} (z ∷ zs) (suc i) x y = ap (λ (ws : List X). z ∷ ws) (set_twice zs i x y)

-- ---- the pairs of a chunk

abbrev pub IsOf : ℕ → Pair → Type 0
IsOf n p = IsPair p × (chunk_number p.i_number ≡ n)

ordered : (n : ℕ) → Ordered nat_cmp i_number_of nat_cmp_total (pair_row n) (IsOf n)
ordered n = record { splits = λ b p fits. (((fits.0.0.0, fits.1), eqb-true _ _ fits.0.0.1), fits.0.1); joins = λ b p each up. (((each.0.0, eq-eqb _ _ each.1), up), each.0.1) }

pub of_chunk : (c : Chunk) → chunk.Fits c → All (IsOf c.number) c.pairs × Ascends nat_cmp i_number_of None c.pairs
of_chunk c fits = ascends_from_fits nat_cmp i_number_of nat_cmp_total (pair_row c.number) (IsOf c.number) (ordered c.number) None c.pairs fits.1.1.1

some_pairs : (c : Chunk) → chunk.Fits c → length c.pairs ≢ 0
some_pairs c fits none = let range = in_range w8 1 64 (length c.pairs) fits.1.0 in omega (arith, range.0)

-- ---- pairs of lower chunks, of a chunk, and of higher ones

abbrev IsBelow : ℕ → Pair → Type 0
IsBelow n p = chunk_number p.i_number < n

abbrev IsFrom : ℕ → Pair → Type 0
IsFrom n p = n ≤ chunk_number p.i_number

abbrev IsApart : ℕ → Pair → Type 0
IsApart n p = chunk_number p.i_number ≢ n

-- nothing stands before, or a pair of a lower chunk
abbrev IsBefore : ℕ → Option Pair → Type 0
IsBefore n None = Unit {0}
IsBefore n (Some p) = IsBelow n p

above_first : (n : ℕ) (b : Option Pair) (y : Pair) → IsBefore n b → n ≤ chunk_number y.i_number → above nat_cmp i_number_of b y.i_number ≡ true
above_first n None y before from = refl
above_first n (Some p) y before from = less_from_lt p.i_number y.i_number (omega (arith, before, from))

-- pairs from a chunk on ascend after all that stands before it
ascends_following : (n : ℕ) (b c : Option Pair) (ys : List Pair) → IsBefore n b → All (IsFrom n) ys → Ascends nat_cmp i_number_of c ys → Ascends nat_cmp i_number_of b ys
unfolding Ascends
ascends_following n b c [] before all up = tt
ascends_following n b c (y ∷ ys) before all up = (above_first n b y before (All-head (IsFrom n) y ys all), up.1)

-- so two lists ascend as one, of which the first stands in chunks before those of the second
ascends_both : (n : ℕ) (b c : Option Pair) (xs ys : List Pair) → IsBefore n b → All (IsBelow n) xs → All (IsFrom n) ys → Ascends nat_cmp i_number_of b xs → Ascends nat_cmp i_number_of c ys → Ascends nat_cmp i_number_of b (xs ++ ys)
unfolding Ascends
ascends_both n b c [] ys before below from up more = ascends_following n b c ys before from more
ascends_both n b c (x ∷ xs) ys before below from up more =
    (up.0, ascends_both n (Some x) c xs ys (All-head (IsBelow n) x xs below) (All-tail (IsBelow n) x xs below) from up.1 more)

-- the parts of a list that ascends do
ascends_first : (b : Option Pair) (xs ys : List Pair) → Ascends nat_cmp i_number_of b (xs ++ ys) → Ascends nat_cmp i_number_of b xs
unfolding Ascends
ascends_first b [] ys up = tt
ascends_first b (x ∷ xs) ys up = (up.0, ascends_first (Some x) xs ys up.1)

ascends_last : (b : Option Pair) (xs ys : List Pair) → Ascends nat_cmp i_number_of b (xs ++ ys) → (c : Option Pair) × Ascends nat_cmp i_number_of c ys
unfolding Ascends
ascends_last b [] ys up = (b, up)
ascends_last b (x ∷ xs) ys up = ascends_last (Some x) xs ys up.1

none_in : (m : ℕ) (ps : List Pair) → All (IsApart m) ps → filter (is_in m) ps ≡ []
none_in m [] all = refl
none_in m (p ∷ ps) all =
    rw (ne_eqb (chunk_number p.i_number) m (All-head (IsApart m) p ps all)) (none_in m ps (All-tail (IsApart m) p ps all))

all_of_chunk : (n : ℕ) (ys : List Pair) → All (IsOf n) ys → filter (is_in n) ys ≡ ys
all_of_chunk n [] all = refl
all_of_chunk n (y ∷ ys) all =
    rw (eq-eqb (chunk_number y.i_number) n (All-head (IsOf n) y ys all).1) (ap (λ (zs : List Pair). y ∷ zs) (all_of_chunk n ys (All-tail (IsOf n) y ys all)))

-- ---- what is loaded

-- an i-number that is loaded is in no chunk that isn't
apart_from : (t : ITable) (n : ℕ) (x : ListedChunk) → unloaded_at t n ≡ Some x → (i : ℕ) → loaded t i ≡ true → chunk_number i ≢ n
apart_from t n x at i is e =
    let clash : false ≡ true = sym (ap (λ (o : Option ListedChunk). not (is_some o)) (ap (unloaded_at t) e ∙ at)) ∙ is in
    absurd cc

same_listed : (f g : ℕ → Option ListedChunk) → ((m : ℕ) → f m ≡ g m) → (ms : List ℕ) → filter_map f ms ≡ filter_map g ms
same_listed f g same [] = refl
same_listed f g same (m ∷ ms) = rw (same m) (ap (λ (xs : List ListedChunk). cons_option (g m) xs) (same_listed f g same ms))

-- ---- the table with the chunk, whose pairs stand at this place

-- the pairs of lower chunks end at this place
pub record Place (ps : List Pair) (n k : ℕ) : Type 0 where
  pub inside : k ≤ length ps
  pub below : AllWithin (λ p. chunk_number p.i_number < n) ps 0 k
  pub from : AllWithin (λ p. n ≤ chunk_number p.i_number) ps k (length ps)

-- what a table is after a chunk was loaded in another one
pub record IsLoadedIn (t u : ITable) (c : Chunk) : Type 0 where
  pub loaded : (i : ℕ) → loaded u i ≡ (loaded t i || (chunk_number i == c.number))
  pub digests : (i : ℕ) → digest_at u i ≡ (if chunk_number i == c.number then digest_in c.pairs i else digest_at t i)
  pub last : All (λ p. chunk_number p.i_number < c.number) t.pairs → u.pairs ≡ t.pairs ++ c.pairs
  pub listed : listings u ≡ listings t
  pub handle : handle_of u ≡ handle_of t

abbrev pub entry : Chunk → ListedChunk
entry c = record { number = c.number; digest = hash (chunk.spell c) }

abbrev pub with_chunk : ITable → Chunk → ℕ → ITable
with_chunk t c k = record t { pairs = take k t.pairs ++ (c.pairs ++ drop k t.pairs); unloaded = without_row nat_cmp number_of t.unloaded c.number }

module _ (t : ITable) (c : Chunk) (k : ℕ) (is : IsTable t) (fits : chunk.Fits c) (at : unloaded_at t c.number ≡ Some (entry c)) (place : Place t.pairs c.number k) where
  abbrev n : ℕ
  n = c.number

  abbrev u : ITable
  u = with_chunk t c k

  abbrev lows : List Pair
  lows = take k t.pairs

  abbrev highs : List Pair
  highs = drop k t.pairs

  both : lows ++ highs ≡ t.pairs
  both = take-append-drop k t.pairs

  mine : All (IsOf n) c.pairs × Ascends nat_cmp i_number_of None c.pairs
  mine = of_chunk c fits

  all_apart : All (IsApart n) t.pairs
  all_apart = All-weaker (λ p. loaded t p.i_number ≡ true) (IsApart n) (λ p here. apart_from t n (entry c) at p.i_number here) t.pairs is.in_loaded

  low : All (IsBelow n) lows
  low =
      let none : Pair = record { i_number = 0; digest = [] } in
      All-from_get_or (IsBelow n) lows none (λ i lt. let near : i < k = omega (arith, lt, length-take-le k t.pairs place.inside) in rw (get_or-take k t.pairs i none near) (place.below i none (omega arith) near))

  all_above : (ps : List Pair) → All (IsFrom n) ps → All (IsApart n) ps → All (IsFrom (n + 1)) ps
  all_above [] from_it apart = All-nil (IsFrom (n + 1))
  all_above (p ∷ ps) from_it apart =
      All-cons (IsFrom (n + 1)) p ps (omega (arith, All-head (IsFrom n) p ps from_it, All-head (IsApart n) p ps apart)) (all_above ps (All-tail (IsFrom n) p ps from_it) (All-tail (IsApart n) p ps apart))

  high : All (IsFrom (n + 1)) highs
  high =
      let none : Pair = record { i_number = 0; digest = [] } in
      let from_it = All-from_get_or (IsFrom n) highs none (λ i lt. rw (get_or-drop k t.pairs i none) (place.from (k + i) none (omega arith) (omega (arith, lt, length-drop k t.pairs, place.inside)))) in
      all_above highs from_it (All-drop (IsApart n) k t.pairs all_apart)

  -- ---- its pairs

  pairs_elsewhere : (m : ℕ) → n ≢ m → filter (is_in m) u.pairs ≡ filter (is_in m) t.pairs
  pairs_elsewhere m apart =
      let none = none_in m c.pairs (All-weaker (IsOf n) (IsApart m) (λ p of e. apart (sym of.1 ∙ e)) c.pairs mine.0) in
      filter-append (is_in m) lows (c.pairs ++ highs)
      ∙ ap (λ (ps : List Pair). filter (is_in m) lows ++ ps) (filter-append (is_in m) c.pairs highs ∙ ap (λ (ps : List Pair). ps ++ filter (is_in m) highs) none)
      ∙ sym (filter-append (is_in m) lows highs)
      ∙ ap (filter (is_in m)) both

  pairs_here : filter (is_in n) u.pairs ≡ c.pairs
  pairs_here =
      let none_low = none_in n lows (All-take (IsApart n) k t.pairs all_apart) in
      let none_high = none_in n highs (All-drop (IsApart n) k t.pairs all_apart) in
      filter-append (is_in n) lows (c.pairs ++ highs)
      ∙ ap (λ (ps : List Pair). ps ++ filter (is_in n) (c.pairs ++ highs)) none_low
      ∙ filter-append (is_in n) c.pairs highs
      ∙ ap (λ (ps : List Pair). filter (is_in n) c.pairs ++ ps) none_high
      ∙ append-nil (filter (is_in n) c.pairs)
      ∙ all_of_chunk n c.pairs mine.0

  text_elsewhere : (m : ℕ) → n ≢ m → text_of_chunk u m ≡ text_of_chunk t m
  text_elsewhere m apart = text_by_pairs u t m (pairs_elsewhere m apart)

  text_here : text_of_chunk u n ≡ Some (chunk.spell c)
  unfolding text_of_chunk
  text_here = rw pairs_here (rw (ne_eqb (length c.pairs) 0 (some_pairs c fits)) refl)

  digests_step : (i : ℕ) (in_it : Bool) → (chunk_number i == n) ≡ in_it → digest_at u i ≡ (if in_it then digest_in c.pairs i else digest_at t i)
  digests_step i true here =
      in_chunk u i ∙ ap (λ (m : ℕ). digest_in (filter (is_in m) u.pairs) i) (eqb-true (chunk_number i) n here) ∙ ap (λ (ps : List Pair). digest_in ps i) pairs_here
  digests_step i false other =
      let apart : n ≢ chunk_number i = λ e. let clash = sym other ∙ eq-eqb (chunk_number i) n (sym e) in absurd cc in
      in_chunk u i ∙ ap (λ (ps : List Pair). digest_in ps i) (pairs_elsewhere (chunk_number i) apart) ∙ sym (in_chunk t i)

  digests_loaded : (i : ℕ) → digest_at u i ≡ (if chunk_number i == n then digest_in c.pairs i else digest_at t i)
  digests_loaded i = digests_step i (chunk_number i == n) refl

  -- where all others are lower they stand last
  pairs_last : All (IsBelow n) t.pairs → u.pairs ≡ t.pairs ++ c.pairs
  pairs_last lower =
      let none : Pair = record { i_number = 0; digest = [] } in
      let end : length t.pairs ≤ k = elim (cases_lt k (length t.pairs)) [
        | inl lt ↦ absurd (omega (arith, place.from k none (omega arith) lt, All-get_or (IsBelow n) t.pairs k none lt lower))
        | inr le ↦ le
      ] in
      ap (λ (ps : List Pair). ps ++ (c.pairs ++ highs)) (take_all k t.pairs end)
      ∙ ap (λ (ps : List Pair). t.pairs ++ (c.pairs ++ ps)) (drop_all k t.pairs end)
      ∙ ap (λ (ps : List Pair). t.pairs ++ ps) (append-nil c.pairs)

  -- ---- what is loaded

  unloaded_is : (m : ℕ) → unloaded_at u m ≡ cond (is_eq (nat_cmp n m)) None (unloaded_at t m)
  unloaded_is m = row_at-without_row nat_cmp number_of nat_cmp_total None t.unloaded n m is.unloaded_ascend

  unloaded_elsewhere : (m : ℕ) → n ≢ m → unloaded_at u m ≡ unloaded_at t m
  unloaded_elsewhere m apart = unloaded_is m ∙ ap (λ (b : Bool). cond b None (unloaded_at t m)) (other_key n m apart)

  unloaded_here : unloaded_at u n ≡ None
  unloaded_here = unloaded_is n ∙ ap (λ (b : Bool). cond b None (unloaded_at t n)) (itself n)

  now_loaded : (i : ℕ) → chunk_number i ≡ n → loaded u i ≡ true
  now_loaded i same = ap (λ (o : Option ListedChunk). not (is_some o)) (ap (unloaded_at u) same ∙ unloaded_here)

  loaded_step : (i : ℕ) (in_it : Bool) → (chunk_number i == n) ≡ in_it → loaded u i ≡ (loaded t i || in_it)
  loaded_step i true here =
      let same = eqb-true (chunk_number i) n here in
      let old : loaded t i ≡ false = ap (λ (o : Option ListedChunk). not (is_some o)) (ap (unloaded_at t) same ∙ at) in
      now_loaded i same ∙ sym (ap (λ (b : Bool). b || true) old)
  loaded_step i false other =
      let apart : n ≢ chunk_number i = λ e. let clash = sym other ∙ eq-eqb (chunk_number i) n (sym e) in absurd cc in
      ap (λ (o : Option ListedChunk). not (is_some o)) (unloaded_elsewhere (chunk_number i) apart) ∙ sym (or-false (loaded t i))

  loaded_is : (i : ℕ) → loaded u i ≡ (loaded t i || (chunk_number i == n))
  loaded_is i = loaded_step i (chunk_number i == n) refl

  still_loaded : (i : ℕ) → loaded t i ≡ true → loaded u i ≡ true
  still_loaded i here = loaded_is i ∙ ap (λ (b : Bool). b || (chunk_number i == n)) here

  -- ---- it is a table

  ascending : Ascends nat_cmp i_number_of None u.pairs
  ascending =
      let up : Ascends nat_cmp i_number_of None (lows ++ highs) = subst (Ascends nat_cmp i_number_of None) (sym both) is.ascending in
      let rest = ascends_last None lows highs up in
      let below_rest = All-weaker (IsOf n) (IsBelow (n + 1)) (λ p of. omega (arith, of.1)) c.pairs mine.0 in
      let run = ascends_both (n + 1) None rest.0 c.pairs highs tt below_rest high mine.1 rest.1 in
      let from_it = All-append (IsFrom n) c.pairs highs (All-weaker (IsOf n) (IsFrom n) (λ p of. omega (arith, of.1)) c.pairs mine.0) (All-weaker (IsFrom (n + 1)) (IsFrom n) (λ p above. omega (arith, above)) highs high) in
      ascends_both n None None lows (c.pairs ++ highs) tt low from_it (ascends_first None lows highs up) run

  all_three : (P : Pair → Type 0) → All P t.pairs → All P c.pairs → All P u.pairs
  all_three P old new = All-append P lows (c.pairs ++ highs) (All-take P k t.pairs old) (All-append P c.pairs highs new (All-drop P k t.pairs old))

  is_table_loaded : IsTable u
  is_table_loaded = record {
    of_principal = is.of_principal;
    of_pairs = all_three IsPair is.of_pairs (All-weaker (IsOf n) IsPair (λ p each. each.0) c.pairs mine.0);
    ascending = ascending;
    in_loaded = all_three (λ p. loaded u p.i_number ≡ true)
        (All-weaker (λ p. loaded t p.i_number ≡ true) (λ p. loaded u p.i_number ≡ true) (λ p here. still_loaded p.i_number here) t.pairs is.in_loaded)
        (All-weaker (IsOf n) (λ p. loaded u p.i_number ≡ true) (λ p of. now_loaded p.i_number of.1) c.pairs mine.0);
    of_unloaded = all_without_row nat_cmp number_of nat_cmp_total IsListed t.unloaded n is.of_unloaded;
    unloaded_ascend = ascends_without_row nat_cmp number_of nat_cmp_total None t.unloaded n is.unloaded_ascend;
  }

  pub keeps_loaded : (known : Known) → IsKept t known → IsKept u (set known n (Some (hash (chunk.spell c))))
  keeps_loaded known kept =
      subst (IsKept u) (set_twice known n None (Some (hash (chunk.spell c))))
      (keeps_more u (set known n None) n (chunk.spell c) (keeps_others t u known n kept is_table_loaded text_elsewhere) text_here)

  -- ---- its root

  listing_same : (m : ℕ) → listing u m ≡ listing t m
  listing_same m =
      elim (cases_eq n m) [
        | inl e ↦ subst (λ (k : ℕ). listing u k ≡ listing t k) e
            (loaded_listed u n unloaded_here ∙ ap (listed_as n) text_here ∙ sym (unloaded_listed t n (entry c) at))
        | inr apart ↦
            ap (λ (o : Option ListedChunk). option_or o (listed_as m (text_of_chunk u m))) (unloaded_elsewhere m apart)
            ∙ ap (λ (text : Option (List ℕ)). option_or (unloaded_at t m) (listed_as m text)) (text_elsewhere m apart)
      ]

  listings_loaded : listings u ≡ listings t
  unfolding listings
  listings_loaded = same_listed (listing u) (listing t) listing_same (range_with_len 0 64)

  handle_loaded : handle_of u ≡ handle_of t
  handle_loaded = ap (λ (chunks : List ListedChunk). hash (root.spell (record { principal = t.principal; chunks = chunks }))) listings_loaded

  -- ---- all of it

  pub is_loaded_in : IsLoadedIn t u c
  is_loaded_in = record { loaded = loaded_is; digests = digests_loaded; last = pairs_last; listed = listings_loaded; handle = handle_loaded }
