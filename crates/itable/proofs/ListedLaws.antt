-- The laws of listed chunks: what is found at a number, and that a root's are those of a table.
use Rattle.std.proofs.Common.{◌≡◌, true, false, ℕ, ◌≤◌, Bool, List, [], ◌∷◌, Option, Some, None, refl, ap, sym, ◌∙◌, subst, arith}
use Rattle.std.specs.Prelude.{IfSome, not}
use Rattle.std.specs.Int.{w8}
use Rattle.std.specs.List.{All}
use Rattle.std.specs.Option.{is_some}
use Rattle.std.specs.Ordering.{nat_cmp, is_eq}
use Rattle.std.proofs.lemmas.Cmp.{nat_cmp_total}
use Rattle.std.proofs.lemmas.List.Elements.{All-head, All-tail, All-nil, All-weaker}
use Rattle.layout.specs.Laws.{in_range, in_range_fits}
use Rattle.layout.specs.Ascending.{Ascends, row_at}
use Rattle.layout.specs.AscendingLaws.{Ordered, ascends_from_fits, HasOther, no_row}
use Rattle.itable.specs.declared.root.ListedChunk.{ListedChunk}
use Rattle.itable.specs.Chunk.{chunk_number}
use Rattle.itable.specs.Root.{Root, root, chunk_row, number_of}
use Rattle.itable.specs.ITable.{ITable, IsPair, IsListed, IsTable, IsWhole, unloaded_at, loaded}
use Rattle.itable.proofs.Runs.{other_key, same_key}

pub some_is : {A : Type 0} {x y : A} → Some x ≡ Some y → x ≡ y
some_is e = cc

row_step : (P : ListedChunk → Type 0) (x : ListedChunk) (xs : List ListedChunk) (n : ℕ) (c : ListedChunk) → P x → (row_at nat_cmp number_of xs n ≡ Some c → P c × (c.number ≡ n))
    → (t : Bool) → is_eq (nat_cmp x.number n) ≡ t → row_at nat_cmp number_of (x ∷ xs) n ≡ Some c → P c × (c.number ≡ n)
row_step P x xs n c here there true is found =
    let first : row_at nat_cmp number_of (x ∷ xs) n ≡ Some x = rw is refl in
    let same = some_is (sym first ∙ found) in
    (subst P same here, sym (ap (λ (y : ListedChunk). y.number) same) ∙ same_key x.number n is)
row_step P x xs n c here there false is found =
    let later : row_at nat_cmp number_of (x ∷ xs) n ≡ row_at nat_cmp number_of xs n = rw is refl in
    there (sym later ∙ found)

-- what holds of all holds of the one that is found, and its number is the one that was looked for
pub row_holds : (P : ListedChunk → Type 0) (xs : List ListedChunk) (n : ℕ) (c : ListedChunk) → All P xs → row_at nat_cmp number_of xs n ≡ Some c → P c × (c.number ≡ n)
row_holds P [] n c all found = absurd cc
row_holds P (x ∷ xs) n c all found =
    row_step P x xs n c (All-head P x xs all) (row_holds P xs n c (All-tail P x xs all)) (is_eq (nat_cmp x.number n)) refl found

-- what is found at a number has that number
pub found_number : (t : ITable) (found : Option ListedChunk) (n : ℕ) → IsTable t → found ≡ unloaded_at t n → IfSome found (λ c. c.number ≡ n)
found_number t None n is at = tt
found_number t (Some c) n is at = (row_holds IsListed t.unloaded n c is.of_unloaded (sym at)).1

-- no chunk is listed from 64 on
pub none_beyond : (xs : List ListedChunk) (n : ℕ) → All IsListed xs → 64 ≤ n → row_at nat_cmp number_of xs n ≡ None
none_beyond xs n all far = no_row nat_cmp number_of xs n (All-weaker IsListed (HasOther nat_cmp number_of n) (λ c is. other_key c.number n (λ e. omega (arith, is.0, e, far))) xs all)

none_there : (o : Option ListedChunk) → not (is_some o) ≡ true → o ≡ None
none_there None e = refl
none_there (Some c) e = absurd cc

pub loaded_at : (t : ITable) (i : ℕ) → loaded t i ≡ true → unloaded_at t (chunk_number i) ≡ None
loaded_at t i here = none_there (unloaded_at t (chunk_number i)) here

pub whole_loaded : (t : ITable) (i : ℕ) → IsWhole t → loaded t i ≡ true
whole_loaded t i whole = ap (λ (cs : List ListedChunk). not (is_some (row_at nat_cmp number_of cs (chunk_number i)))) whole

-- ---- the chunks of a root

pub ordered : Ordered nat_cmp number_of nat_cmp_total chunk_row IsListed
ordered = record {
  splits = λ b c fits. let range = in_range w8 0 63 c.number fits.0.0 in ((omega (arith, range.1), fits.1), fits.0.1);
  joins = λ b c each up. ((in_range_fits w8 0 63 c.number (omega (arith, each.0)) (omega arith) (omega (arith, each.0)), up), each.1);
}

-- a root's chunks, of which none is loaded, are a table
pub is_table_of : (r : Root) → root.Fits r → IsTable (record { principal = r.principal; pairs = []; unloaded = r.chunks })
unfolding Ascends
is_table_of r fits =
    let t : ITable = record { principal = r.principal; pairs = []; unloaded = r.chunks } in
    let rows = ascends_from_fits nat_cmp number_of nat_cmp_total chunk_row IsListed ordered None r.chunks fits.1.1.1 in
    record {
      of_principal = fits.0;
      of_pairs = All-nil IsPair;
      ascending = tt;
      in_loaded = All-nil (λ p. loaded t p.i_number ≡ true);
      of_unloaded = rows.0;
      unloaded_ascend = rows.1;
    }
