-- What a table knows of its chunks through changes.
use Rattle.std.proofs.Common.{◌≡◌, ◌≢◌, ℕ, zero, suc, Bool, true, false, List, [], ◌∷◌, get_or, set, replicate, Option, Result, Ok, Err, Some, None, refl, sym, ap, subst, ◌∙◌, ◌⊎◌, inl, inr, arith}
use Rattle.std.specs.Prelude.{filter, OnOk, OnErr}
use Rattle.std.specs.Option.{option_map}
use Rattle.std.specs.Ordering.{nat_cmp, is_eq, is_lt}
use Rattle.std.proofs.lemmas.Bool.{cases_lt, ne_eqb}
use Rattle.std.proofs.lemmas.List.{get_or-replicate, get_or_past, length-replicate}
use Rattle.layout.specs.Hash.{hash}
use Rattle.layout.specs.Ranges.{principal as principals}
use Rattle.layout.specs.Ascending.{with_row, without_row}
use Rattle.itable.specs.declared.chunk.Pair.{Pair}
use Rattle.itable.specs.Chunk.{chunk_number, i_number_of}
use Rattle.itable.specs.ITable.{ITable, IsPair, IsTable, loaded, is_in, text_of_chunk}
use Rattle.itable.specs.Known.{IsKept}
use Rattle.itable.proofs.Runs.{same_key}
use Rattle.itable.proofs.TableLaws.{is_empty_table, is_table_with, is_table_without}

-- ---- the other chunks

with_step : (n : ℕ) (x y : Pair) (ys : List Pair) → is_in n x ≡ false → filter (is_in n) (with_row nat_cmp i_number_of ys x) ≡ filter (is_in n) ys
    → (t k : Bool) → is_lt (nat_cmp y.i_number x.i_number) ≡ t → is_eq (nat_cmp y.i_number x.i_number) ≡ k → filter (is_in n) (with_row nat_cmp i_number_of (y ∷ ys) x) ≡ filter (is_in n) (y ∷ ys)
with_step n x y ys apart later true k less same = rw (less, later) refl
with_step n x y ys apart later false true less same =
    let alike : is_in n y ≡ false = ap (λ (i : ℕ). is_in n (record { i_number = i; digest = [] })) (same_key y.i_number x.i_number same) ∙ apart in
    rw (less, same) (rw (apart, alike) refl)
with_step n x y ys apart later false false less same = rw (less, same) (rw apart refl)

other_with : (n : ℕ) (x : Pair) (ps : List Pair) → is_in n x ≡ false → filter (is_in n) (with_row nat_cmp i_number_of ps x) ≡ filter (is_in n) ps
other_with n x [] apart = rw apart refl
other_with n x (y ∷ ys) apart = with_step n x y ys apart (other_with n x ys apart) (is_lt (nat_cmp y.i_number x.i_number)) (is_eq (nat_cmp y.i_number x.i_number)) refl refl

without_step : (n i : ℕ) (p : Pair) (ps : List Pair) → chunk_number i ≢ n → filter (is_in n) (without_row nat_cmp i_number_of ps i) ≡ filter (is_in n) ps
    → (t : Bool) → is_eq (nat_cmp p.i_number i) ≡ t → filter (is_in n) (without_row nat_cmp i_number_of (p ∷ ps) i) ≡ filter (is_in n) (p ∷ ps)
without_step n i p ps apart later true same =
    let alike : is_in n p ≡ false = ne_eqb (chunk_number p.i_number) n (λ e. apart (ap chunk_number (sym (same_key p.i_number i same)) ∙ e)) in
    rw same (rw alike refl)
without_step n i p ps apart later false same = rw (same, later) refl

other_without : (n i : ℕ) (ps : List Pair) → chunk_number i ≢ n → filter (is_in n) (without_row nat_cmp i_number_of ps i) ≡ filter (is_in n) ps
other_without n i [] apart = refl
other_without n i (p ∷ ps) apart = without_step n i p ps apart (other_without n i ps apart) (is_eq (nat_cmp p.i_number i)) refl

-- a chunk's text is told by its pairs
pub text_by_pairs : (u t : ITable) (n : ℕ) → filter (is_in n) u.pairs ≡ filter (is_in n) t.pairs → text_of_chunk u n ≡ text_of_chunk t n
unfolding text_of_chunk
text_by_pairs u t n same = rw same refl

-- a pair in one chunk leaves the texts of the others
pub text_with : (t : ITable) (x : Pair) (n : ℕ) → chunk_number x.i_number ≢ n → text_of_chunk (record t { pairs = with_row nat_cmp i_number_of t.pairs x }) n ≡ text_of_chunk t n
text_with t x n apart = text_by_pairs (record t { pairs = with_row nat_cmp i_number_of t.pairs x }) t n (other_with n x t.pairs (ne_eqb (chunk_number x.i_number) n apart))

pub text_without : (t : ITable) (i n : ℕ) → chunk_number i ≢ n → text_of_chunk (record t { pairs = without_row nat_cmp i_number_of t.pairs i }) n ≡ text_of_chunk t n
text_without t i n apart = text_by_pairs (record t { pairs = without_row nat_cmp i_number_of t.pairs i }) t n (other_without n i t.pairs apart)

-- ---- what is known

abbrev pub Known : Type 0
Known = List (Option (List ℕ))

abbrev known_at : Known → ℕ → Option (List ℕ)
known_at known n = get_or known n None

pub none_known : (k n : ℕ) (d : List ℕ) → known_at (replicate k None) n ≡ Some d → ⊥
none_known k n d h =
    let none : known_at (replicate k None) n ≡ None = elim (cases_lt n k) [
      | inl lt ↦ get_or-replicate k n None None lt
      | inr le ↦ get_or_past (replicate k None) n None (rw length-replicate le)
    ] in
    absurd cc

forgotten : (known : Known) (i n : ℕ) (d : List ℕ) → known_at (set known i None) n ≡ Some d → (i ≢ n) × (known_at known n ≡ Some d)
forgotten [] i n d h = absurd cc
forgotten (k ∷ ks) zero zero d h = absurd cc
forgotten (k ∷ ks) zero (suc n) d h = (λ e. omega arith, h)
forgotten (k ∷ ks) (suc i) zero d h = (λ e. omega arith, h)
forgotten (k ∷ ks) (suc i) (suc n) d h = let later = forgotten ks i n d h in (λ e. later.0 (omega arith), later.1)

learned : (known : Known) (i n : ℕ) (new d : List ℕ) → known_at (set known i (Some new)) n ≡ Some d → ((i ≡ n) × (new ≡ d)) ⊎ (known_at known n ≡ Some d)
learned [] i n new d h = absurd cc
learned (k ∷ ks) zero zero new d h = inl (refl, cc)
learned (k ∷ ks) zero (suc n) new d h = inr h
learned (k ∷ ks) (suc i) zero new d h = inr h
learned (k ∷ ks) (suc i) (suc n) new d h = elim (learned ks i n new d h) [ inl here ↦ inl (ap suc here.0, here.1) | inr there ↦ inr there ]

-- ---- what a table keeps

-- nothing is known of a table
pub keeps_nothing : (t : ITable) → IsTable t → IsKept t []
keeps_nothing t is = record { is_table = is; known_is = λ n d h. absurd cc }

pub keeps_empty : (p : ℕ) → principals.Fits p → IsKept (record { principal = p; pairs = []; unloaded = [] }) []
keeps_empty p fits = keeps_nothing (record { principal = p; pairs = []; unloaded = [] }) (is_empty_table p fits)

-- no more is known than before
pub keeps_less : (t : ITable) (known less : Known) → IsKept t known → ((n : ℕ) (d : List ℕ) → known_at less n ≡ Some d → known_at known n ≡ Some d) → IsKept t less
keeps_less t known less kept fewer = record { is_table = kept.is_table; known_is = λ n d h. kept.known_is n d (fewer n d h) }

-- one chunk is forgotten, and the texts of the others stay
pub keeps_others : (t u : ITable) (known : Known) (i : ℕ) → IsKept t known → IsTable u → ((n : ℕ) → i ≢ n → text_of_chunk u n ≡ text_of_chunk t n) → IsKept u (set known i None)
keeps_others t u known i kept is same = record {
  is_table = is;
  known_is = λ n d h. let rest = forgotten known i n d h in ap (option_map hash) (same n rest.0) ∙ kept.known_is n d rest.1;
}

pub keeps_set : {X E : Type 0} (r : Result X E) (t : ITable) (known : Known) (x : Pair) (pairs : List Pair) → IsPair x → loaded t x.i_number ≡ true → IsKept t known
    → OnOk r (pairs ≡ with_row nat_cmp i_number_of t.pairs x) → OnErr r (pairs ≡ t.pairs) → IsKept (record t { pairs = pairs }) (set known (chunk_number x.i_number) None)
keeps_set (Ok y) t known x pairs pair here kept ok err =
    subst (λ (ps : List Pair). IsKept (record t { pairs = ps }) (set known (chunk_number x.i_number) None)) (sym ok)
    (keeps_others t (record t { pairs = with_row nat_cmp i_number_of t.pairs x }) known (chunk_number x.i_number) kept (is_table_with t x pair here kept.is_table) (λ n apart. text_with t x n apart))
keeps_set (Err e) t known x pairs pair here kept ok err =
    subst (λ (ps : List Pair). IsKept (record t { pairs = ps }) (set known (chunk_number x.i_number) None)) (sym err)
    (keeps_others t t known (chunk_number x.i_number) kept kept.is_table (λ n apart. refl))

pub keeps_removed : (t : ITable) (known : Known) (i : ℕ) (pairs : List Pair) → IsKept t known → pairs ≡ without_row nat_cmp i_number_of t.pairs i → IsKept (record t { pairs = pairs }) (set known (chunk_number i) None)
keeps_removed t known i pairs kept is =
    subst (λ (ps : List Pair). IsKept (record t { pairs = ps }) (set known (chunk_number i) None)) (sym is)
    (keeps_others t (record t { pairs = without_row nat_cmp i_number_of t.pairs i }) known (chunk_number i) kept (is_table_without t i kept.is_table) (λ n apart. text_without t i n apart))

-- the digest of a chunk's text is learned
pub keeps_more : (t : ITable) (known : Known) (i : ℕ) (text : List ℕ) → IsKept t known → text_of_chunk t i ≡ Some text → IsKept t (set known i (Some (hash text)))
keeps_more t known i text kept is = record {
  is_table = kept.is_table;
  known_is = λ n d h. elim (learned known i n (hash text) d h) [
    | inl here ↦ ap (λ (m : ℕ). option_map hash (text_of_chunk t m)) (sym here.0) ∙ ap (option_map hash) is ∙ ap Some here.1
    | inr there ↦ kept.known_is n d there
  ];
}
