-- The laws of tables: what a change does, and that a table is known by its map.
use Rattle.std.proofs.Common.{◌≡◌, ℕ, Bool, true, false, cond, List, [], ◌∷◌, Option, Some, None, Result, Ok, Err, refl, sym, ap, ◌∙◌, arith}
use Rattle.std.specs.Prelude.{◌==◌, if◌then◌else◌, OnOk}
use Rattle.std.specs.Option.{option_map}
use Rattle.std.specs.Ordering.{nat_cmp, is_eq}
use Rattle.std.proofs.lemmas.Bool.{eqb-true}
use Rattle.std.proofs.lemmas.Bool.Decides.{nat_tests}
use Rattle.std.proofs.lemmas.Cmp.{nat_cmp_total}
use Rattle.std.proofs.lemmas.List.Elements.{All-nil}
use Rattle.layout.specs.Ranges.{principal as principals}
use Rattle.layout.specs.Ascending.{Ascends, row_at, with_row, without_row}
use Rattle.layout.specs.AscendingLaws.{row_at-with_row, row_at-without_row, ascends_with_row, ascends_without_row, all_with_row, all_without_row, same_rows}
use Rattle.itable.specs.declared.chunk.Pair.{Pair}
use Rattle.itable.specs.declared.root.ListedChunk.{ListedChunk}
use Rattle.itable.specs.Chunk.{i_number_of}
use Rattle.itable.specs.ITable.{ITable, IsPair, IsListed, IsTable, loaded, digest_at}

pub is_empty_table : (p : ℕ) → principals.Fits p → IsTable (record { principal = p; pairs = []; unloaded = [] })
unfolding Ascends
is_empty_table p fits = record {
  of_principal = fits;
  of_pairs = All-nil IsPair;
  ascending = tt;
  in_loaded = All-nil (λ q. loaded (record { principal = p; pairs = []; unloaded = [] }) q.i_number ≡ true);
  of_unloaded = All-nil IsListed;
  unloaded_ascend = tt;
}

pub is_table_with : (t : ITable) (x : Pair) → IsPair x → loaded t x.i_number ≡ true → IsTable t → IsTable (record t { pairs = with_row nat_cmp i_number_of t.pairs x })
is_table_with t x pair here is = record {
  of_principal = is.of_principal;
  of_pairs = all_with_row nat_cmp i_number_of nat_cmp_total IsPair t.pairs x pair is.of_pairs;
  ascending = ascends_with_row nat_cmp i_number_of nat_cmp_total None t.pairs x refl is.ascending;
  in_loaded = all_with_row nat_cmp i_number_of nat_cmp_total (λ p. loaded t p.i_number ≡ true) t.pairs x here is.in_loaded;
  of_unloaded = is.of_unloaded;
  unloaded_ascend = is.unloaded_ascend;
}

pub is_table_without : (t : ITable) (i : ℕ) → IsTable t → IsTable (record t { pairs = without_row nat_cmp i_number_of t.pairs i })
is_table_without t i is = record {
  of_principal = is.of_principal;
  of_pairs = all_without_row nat_cmp i_number_of nat_cmp_total IsPair t.pairs i is.of_pairs;
  ascending = ascends_without_row nat_cmp i_number_of nat_cmp_total None t.pairs i is.ascending;
  in_loaded = all_without_row nat_cmp i_number_of nat_cmp_total (λ p. loaded t p.i_number ≡ true) t.pairs i is.in_loaded;
  of_unloaded = is.of_unloaded;
  unloaded_ascend = is.unloaded_ascend;
}

key_test : (a b : ℕ) → is_eq (nat_cmp a b) ≡ (a == b)
key_test a b = grind (arith, nat_tests)

mapped_cond : {A B : Type 0} (f : A → B) (t : Bool) (x y : Option A) → option_map f (cond t x y) ≡ cond t (option_map f x) (option_map f y)
mapped_cond f true x y = refl
mapped_cond f false x y = refl

pub digest_at-with : (t : ITable) (x : Pair) (i : ℕ) → digest_at (record t { pairs = with_row nat_cmp i_number_of t.pairs x }) i ≡ (if x.i_number == i then Some x.digest else digest_at t i)
digest_at-with t x i =
    ap (option_map (λ p. p.digest)) (row_at-with_row nat_cmp i_number_of nat_cmp_total t.pairs x i)
    ∙ mapped_cond (λ (p : Pair). p.digest) (is_eq (nat_cmp x.i_number i)) (Some x) (row_at nat_cmp i_number_of t.pairs i)
    ∙ ap (λ (b : Bool). cond b (Some x.digest) (digest_at t i)) (key_test x.i_number i)

pub digest_at-without : (t : ITable) (k i : ℕ) → IsTable t → digest_at (record t { pairs = without_row nat_cmp i_number_of t.pairs k }) i ≡ (if k == i then None else digest_at t i)
digest_at-without t k i is =
    ap (option_map (λ p. p.digest)) (row_at-without_row nat_cmp i_number_of nat_cmp_total None t.pairs k i is.ascending)
    ∙ mapped_cond (λ (p : Pair). p.digest) (is_eq (nat_cmp k i)) None (row_at nat_cmp i_number_of t.pairs i)
    ∙ ap (λ (b : Bool). cond b None (digest_at t i)) (key_test k i)

-- ---- a table is known by its map

abbrev pair_of : ℕ → Option (List ℕ) → Option Pair
pair_of i found = option_map (λ d. record { i_number = i; digest = d }) found

row_step : (i : ℕ) (p : Pair) (ps : List Pair) → row_at nat_cmp i_number_of ps i ≡ pair_of i (option_map (λ q. q.digest) (row_at nat_cmp i_number_of ps i))
    → (t : Bool) → is_eq (nat_cmp p.i_number i) ≡ t → row_at nat_cmp i_number_of (p ∷ ps) i ≡ pair_of i (option_map (λ q. q.digest) (row_at nat_cmp i_number_of (p ∷ ps) i))
row_step i p ps later true is =
    let same : p.i_number ≡ i = eqb-true _ _ (sym (key_test p.i_number i) ∙ is) in
    rw is (ap (λ (k : ℕ). Some (record { i_number = k; digest = p.digest })) same)
row_step i p ps later false is = rw is later

row_from_digest : (i : ℕ) (ps : List Pair) → row_at nat_cmp i_number_of ps i ≡ pair_of i (option_map (λ q. q.digest) (row_at nat_cmp i_number_of ps i))
row_from_digest i [] = refl
row_from_digest i (p ∷ ps) = row_step i p ps (row_from_digest i ps) (is_eq (nat_cmp p.i_number i)) refl

pub same_pairs : (u t : ITable) → IsTable u → IsTable t → ((i : ℕ) → digest_at u i ≡ digest_at t i) → u.pairs ≡ t.pairs
same_pairs u t one is same =
    same_rows nat_cmp i_number_of nat_cmp_total None None u.pairs t.pairs one.ascending is.ascending
    (λ i. row_from_digest i u.pairs ∙ ap (pair_of i) (same i) ∙ sym (row_from_digest i t.pairs))

-- tables of one principal with the same digests and the same chunks that aren't loaded are one
pub same_table : (u t : ITable) → IsTable u → IsTable t → u.principal ≡ t.principal → u.unloaded ≡ t.unloaded → ((i : ℕ) → digest_at u i ≡ digest_at t i) → u ≡ t
same_table u t one is of unloaded same =
    ap (λ (p : ℕ). record u { principal = p }) of
    ∙ ap (λ (ps : List Pair). record { principal = t.principal; pairs = ps; unloaded = u.unloaded }) (same_pairs u t one is same)
    ∙ ap (λ (cs : List ListedChunk). record t { unloaded = cs }) unloaded

-- ---- the digests after a change

pub digests_set : {X E : Type 0} (r : Result X E) (t : ITable) (x : Pair) (pairs : List Pair) → OnOk r (pairs ≡ with_row nat_cmp i_number_of t.pairs x)
    → OnOk r ((i : ℕ) → digest_at (record t { pairs = pairs }) i ≡ (if x.i_number == i then Some x.digest else digest_at t i))
digests_set (Ok y) t x pairs ok = λ i. ap (λ (ps : List Pair). digest_at (record t { pairs = ps }) i) ok ∙ digest_at-with t x i
digests_set (Err e) t x pairs ok = tt

pub digests_removed : (t : ITable) (k : ℕ) (pairs : List Pair) → IsTable t → pairs ≡ without_row nat_cmp i_number_of t.pairs k → (i : ℕ) → digest_at (record t { pairs = pairs }) i ≡ (if k == i then None else digest_at t i)
digests_removed t k pairs is left i = ap (λ (ps : List Pair). digest_at (record t { pairs = ps }) i) left ∙ digest_at-without t k i is
