-- The chunks of i-tables: which pairs are in one, and that a root lists none from 64 on.
use Rattle.std.proofs.Common.{◌≡◌, ◌≢◌, ℕ, zero, suc, ◌+◌, ◌<◌, ◌≤◌, Bool, true, false, ◌==◌, List, [], ◌∷◌, length, Option, Some, None, refl, sym, ap, ◌∙◌, inl, inr, if◌then◌else◌, option_map, arith}
use Rattle.std.specs.Prelude.{filter, filter_map}
use Rattle.std.specs.Int.{w8}
use Rattle.std.specs.List.{All, cons_option, range_with_len}
use Rattle.std.specs.Option.{option_or}
use Rattle.std.specs.Ordering.{nat_cmp, is_eq}
use Rattle.std.proofs.lemmas.Bool.{cases_eq, eq-eqb, eqb-true}
use Rattle.std.proofs.lemmas.Cmp.{nat_cmp_total}
use Rattle.std.proofs.lemmas.List.Elements.{All-cons, All-head, All-nil, All-tail, All-weaker}
use Rattle.layout.specs.Ascending.{Ascends, row_at}
use Rattle.layout.specs.AscendingLaws.{HasOther, Ordered, ascends_earlier, fits_from_ascends, no_row}
use Rattle.layout.specs.Laws.{in_range_fits}
use Rattle.layout.specs.Types.{Bytes}
use Rattle.itable.specs.declared.chunk.Pair.{Pair}
use Rattle.itable.specs.declared.root.ListedChunk.{ListedChunk}
use Rattle.itable.specs.Chunk.{chunk, chunk_number, i_number_of, pair_row}
use Rattle.itable.specs.ITable.{ITable, IsListed, IsPair, IsTable, chunk_of, loaded, digest_in, is_in, listing, listings, root_of, text_of_chunk, unloaded_at}
use Rattle.itable.specs.Root.{chunk_at, number_of}
use Rattle.itable.proofs.ChunkLaws.{few_pairs}
use Rattle.itable.proofs.ListedLaws.{row_holds}
use Rattle.itable.proofs.LoadLaws.{IsOf}
use Rattle.itable.proofs.RootLaws.{listed_as}
use Rattle.itable.proofs.Runs.{other_key}
use Rattle.itable.proofs.TableLaws.{same_pairs}

pub some_is : {A : Type 0} {x y : A} → Some x ≡ Some y → x ≡ y
some_is e = cc

-- ---- the pairs of a chunk

module _ (n : ℕ) where
  pub kept_pairs : (ps : List Pair) → All IsPair ps → All (IsOf n) (filter (is_in n) ps)
  kept_pairs [] all = All-nil (IsOf n)
  kept_pairs (p ∷ ps) all = go (is_in n p) refl (kept_pairs ps (All-tail IsPair p ps all))
    where
      go : (b : Bool) → is_in n p ≡ b → All (IsOf n) (filter (is_in n) ps) → All (IsOf n) (if b then p ∷ filter (is_in n) ps else filter (is_in n) ps)
      go true here ih = All-cons (IsOf n) p (filter (is_in n) ps) (All-head IsPair p ps all, eqb-true (chunk_number p.i_number) n here) ih
      go false other ih = ih

  pub kept_ascend : (b : Option Pair) (ps : List Pair) → Ascends nat_cmp i_number_of b ps → Ascends nat_cmp i_number_of b (filter (is_in n) ps)
  unfolding Ascends
  kept_ascend b [] up = tt
  kept_ascend b (p ∷ ps) up = go (is_in n p) (kept_ascend (Some p) ps up.1) (λ down. kept_ascend b ps down)
    where
      go : (t : Bool) → Ascends nat_cmp i_number_of (Some p) (filter (is_in n) ps) → (Ascends nat_cmp i_number_of b ps → Ascends nat_cmp i_number_of b (filter (is_in n) ps))
          → Ascends nat_cmp i_number_of b (if t then p ∷ filter (is_in n) ps else filter (is_in n) ps)
      go true with without = (up.0, with)
      go false with without = without (ascends_earlier nat_cmp i_number_of nat_cmp_total b p ps up.0 up.1)

  -- none of them is at an i-number of another chunk
  none_elsewhere : (ps : List Pair) → All (IsOf n) ps → (i : ℕ) → chunk_number i ≢ n → row_at nat_cmp i_number_of ps i ≡ None
  none_elsewhere ps all i other =
      no_row nat_cmp i_number_of ps i (All-weaker (IsOf n) (HasOther nat_cmp i_number_of i) (λ p is. other_key p.i_number i (λ same. other (ap chunk_number (sym same) ∙ is.1))) ps all)

  -- they are the pairs of a table
  table_of : (ps : List Pair) → All (IsOf n) ps → Ascends nat_cmp i_number_of None ps → IsTable (record { principal = 0; pairs = ps; unloaded = [] })
  unfolding Ascends
  table_of ps all up = record {
    of_principal = in_range_fits w8 0 95 0 (omega arith) (omega arith) (omega arith);
    of_pairs = All-weaker (IsOf n) IsPair (λ p is. is.0) ps all;
    ascending = up;
    in_loaded = All-weaker (IsOf n) (λ p. loaded (record { principal = 0; pairs = ps; unloaded = [] }) p.i_number ≡ true) (λ p is. refl) ps all;
    of_unloaded = All-nil IsListed;
    unloaded_ascend = tt;
  }

  -- pairs of one chunk that tell the same in it are the same
  pub same_in_chunk : (ps qs : List Pair) → All (IsOf n) ps → All (IsOf n) qs → Ascends nat_cmp i_number_of None ps → Ascends nat_cmp i_number_of None qs
      → ((i : ℕ) → chunk_number i ≡ n → digest_in ps i ≡ digest_in qs i) → ps ≡ qs
  same_in_chunk ps qs all_p all_q up_p up_q same =
      same_pairs (record { principal = 0; pairs = ps; unloaded = [] }) (record { principal = 0; pairs = qs; unloaded = [] }) (table_of ps all_p up_p) (table_of qs all_q up_q) (λ i. elim (cases_eq (chunk_number i) n) [
        | inl here ↦ same i here
        | inr other ↦ ap (option_map (λ (p : Pair). p.digest)) (none_elsewhere ps all_p i other ∙ sym (none_elsewhere qs all_q i other))
      ])

  ordered : Ordered nat_cmp i_number_of nat_cmp_total (pair_row n) (IsOf n)
  ordered = record { splits = λ b p fits. (((fits.0.0.0, fits.1), eqb-true _ _ fits.0.0.1), fits.0.1); joins = λ b p each up. (((each.0.0, eq-eqb _ _ each.1), up), each.0.1) }

  -- the text of a chunk
  pub text_is : (t : ITable) (text : Bytes) → text_of_chunk t n ≡ Some text → text ≡ chunk.spell (chunk_of n t)
  unfolding text_of_chunk
  text_is t text e = go (length (chunk_of n t).pairs == 0) e
    where
      go : (b : Bool) → (if b then None else Some (chunk.spell (chunk_of n t))) ≡ Some text → text ≡ chunk.spell (chunk_of n t)
      go true e = absurd (cc e)
      go false e = sym (some_is e)

  some_pairs : (t : ITable) (text : Bytes) → text_of_chunk t n ≡ Some text → length (chunk_of n t).pairs ≢ 0
  unfolding text_of_chunk
  some_pairs t text e none = go (length (chunk_of n t).pairs == 0) (eq-eqb (length (chunk_of n t).pairs) 0 none) e
    where
      go : (b : Bool) → b ≡ true → (if b then None else Some (chunk.spell (chunk_of n t))) ≡ Some text → ⊥
      go true is e = cc e
      go false is e = cc is

  -- a chunk that has a text fits its format
  pub chunk_fits : (t : ITable) (text : Bytes) → IsTable t → n < 64 → text_of_chunk t n ≡ Some text → chunk.Fits (chunk_of n t)
  chunk_fits t text is small has =
      let ps = (chunk_of n t).pairs in
      let some = some_pairs t text has in
      let few = few_pairs t n is in
      let least_one : 1 ≤ length ps = omega (arith, some) in
      let all = kept_pairs t.pairs is.of_pairs in
      let up = kept_ascend None t.pairs is.ascending in (
        in_range_fits w8 0 63 n (omega arith) (omega arith) (omega arith),
        (in_range_fits w8 1 64 (length ps) (omega (arith, few)) least_one few, (refl, fits_from_ascends nat_cmp i_number_of nat_cmp_total (pair_row n) (IsOf n) ordered None ps all up)),
      )

-- ---- the chunks that a root lists

listing_number : (t : ITable) (n : ℕ) (c : ListedChunk) → IsTable t → listing t n ≡ Some c → c.number ≡ n
listing_number t n c is e = go (unloaded_at t n) refl (text_of_chunk t n) e
  where
    go : (o : Option ListedChunk) → unloaded_at t n ≡ o → (text : Option Bytes) → option_or o (listed_as n text) ≡ Some c → c.number ≡ n
    go (Some x) at text same = (row_holds IsListed t.unloaded n c is.of_unloaded (at ∙ same)).1
    go None at (Some text) same = sym (ap (λ (x : ListedChunk). x.number) (some_is same))
    go None at None same = absurd (cc same)

module _ (t : ITable) (is : IsTable t) where
  none_from : (a k n : ℕ) → a + k ≤ n → row_at nat_cmp number_of (filter_map (listing t) (range_with_len a k)) n ≡ None
  none_from a zero n far = refl
  none_from a (suc k) n far = go (listing t a) refl (none_from (a + 1) k n (omega arith))
    where
      rest : List ListedChunk
      rest = filter_map (listing t) (range_with_len (a + 1) k)

      go : (o : Option ListedChunk) → listing t a ≡ o → row_at nat_cmp number_of rest n ≡ None → row_at nat_cmp number_of (cons_option o rest) n ≡ None
      go None at ih = ih
      go (Some c) at ih =
          let number = listing_number t a c is at in
          let other : is_eq (nat_cmp c.number n) ≡ false = other_key c.number n (λ same. omega (arith, number, same, far)) in
          rw other ih

  -- a root lists no chunk from 64 on
  pub none_far : (n : ℕ) → 64 ≤ n → chunk_at (root_of t) n ≡ None
  unfolding listings
  none_far n far = none_from 0 64 n (omega arith)
