-- The texts of a table that another one hasn't.
use Rattle.std.proofs.Common.{◌≡◌, ℕ, ◌<◌, Bool, true, false, List, [], ◌∷◌, ◌++◌, length, Option, Some, None, Ok, refl, sym, ap, ◌∙◌}
use Rattle.std.specs.Prelude.{◌==◌, ◌&&◌, Result, filter_map, IfSome, if◌then◌else◌}
use Rattle.std.specs.Bool.{Decides}
use Rattle.std.specs.List.{range_with_len}
use Rattle.std.specs.Str.{bytes_eq}
use Rattle.std.proofs.lemmas.Bool.Decides.{Decides-and, Decides-eqb, Decides-like}
use Rattle.std.proofs.lemmas.List.{append-nil}
use Rattle.std.proofs.lemmas.Slice.Eq.{bytes_eq-Decides}
use Rattle.layout.specs.Format.{whole}
use Rattle.layout.specs.declared.error.ReadError.{ReadError}
use Rattle.layout.specs.Types.{Principal}
use Rattle.itable.specs.declared.chunk.Pair.{Pair}
use Rattle.itable.specs.Chunk.{Chunk, chunk}
use Rattle.itable.specs.ITable.{ITable, IsTable, chunk_of, is_same_text, new_chunk, new_texts, root_text, text_of_chunk, texts}
use Rattle.itable.proofs.ChunkLaws.{chunk_reads}

abbrev done : Chunk → Result Chunk ReadError
done x = Ok x

ok_is : (x y : Chunk) → done x ≡ done y → x ≡ y
ok_is x y e = cc

once_more : (o : Option (List ℕ)) → (if is_same_text o o then None else o) ≡ None
once_more None = refl
once_more (Some text) = rw ((bytes_eq-Decides text text).1 refl) refl

-- a chunk of which the other table has the same pairs
pub none_new : (before t : ITable) (n : ℕ) → (chunk_of n before).pairs ≡ (chunk_of n t).pairs → new_chunk before t n ≡ None
unfolding text_of_chunk
none_new before t n same =
    let text = λ (pairs : List Pair). if length pairs == 0 then None else Some (chunk.spell (record { number = n; pairs = pairs })) in
    ap (λ (pairs : List Pair). if is_same_text (text pairs) (text (chunk_of n t).pairs) then None else text (chunk_of n t).pairs) same ∙ once_more (text (chunk_of n t).pairs)

-- and of which it has others
pub some_new : (before t : ITable) (n : ℕ) → IsTable before → IsTable t → n < 64 → ¬ ((chunk_of n before).pairs ≡ (chunk_of n t).pairs) → new_chunk before t n ≡ text_of_chunk t n
some_new before t n is_before is inside other = go (text_of_chunk before n) (text_of_chunk t n) (chunk_reads before n is_before inside) (chunk_reads t n is inside)
  where
    go : (old new : Option (List ℕ)) → IfSome old (λ text. whole chunk text ≡ Ok (chunk_of n before)) → IfSome new (λ text. whole chunk text ≡ Ok (chunk_of n t)) → (if is_same_text old new then None else new) ≡ new
    go None new reads_old reads_new = refl
    go (Some a) None reads_old reads_new = refl
    go (Some a) (Some b) reads_old reads_new = by (bytes_eq a b) refl
      where
        by : (same : Bool) → bytes_eq a b ≡ same → (if same then None else Some b) ≡ Some b
        by false e = refl
        by true e =
            let one = sym reads_old ∙ ap (whole chunk) ((bytes_eq-Decides a b).0 e) ∙ reads_new in
            absurd (other (ap (λ (c : Chunk). c.pairs) (ok_is (chunk_of n before) (chunk_of n t) one)))

module _ (before t : ITable) where
  -- those of the chunks, and the root where it is another one
  pub root_new : (chunks new : List (List ℕ)) → chunks ≡ filter_map (new_chunk before t) (range_with_len 0 64) → bytes_eq (root_text t) (root_text before) ≡ false → new ≡ chunks ++ root_text t ∷ [] → new ≡ new_texts before t
  unfolding new_texts
  root_new chunks new so_far other grown = grown ∙ ap (λ (front : List (List ℕ)). front ++ root_text t ∷ []) so_far ∙ rw other refl

  pub root_stays : (chunks : List (List ℕ)) → chunks ≡ filter_map (new_chunk before t) (range_with_len 0 64) → bytes_eq (root_text t) (root_text before) ≡ true → chunks ≡ new_texts before t
  unfolding new_texts
  root_stays chunks so_far same = so_far ∙ sym (append-nil (filter_map (new_chunk before t) (range_with_len 0 64))) ∙ rw same refl

-- all chunks of a table are new to one that has none
pub texts_told : (t : ITable) (p : Principal) (chunks new : List (List ℕ)) → chunks ≡ filter_map (new_chunk (record { principal = p; pairs = []; unloaded = [] }) t) (range_with_len 0 64) → new ≡ chunks ++ root_text t ∷ [] → new ≡ texts t
unfolding texts text_of_chunk
texts_told t p chunks new so_far grown = grown ∙ ap (λ (front : List (List ℕ)). front ++ root_text t ∷ []) so_far

-- ---- pairs

pair_is : (a b : Pair) → a.i_number ≡ b.i_number → a.digest ≡ b.digest → a ≡ b
pair_is a b i d = ap (λ (n : ℕ). record { i_number = n; digest = a.digest }) i ∙ ap (λ (x : List ℕ). record { i_number = b.i_number; digest = x }) d

pub pair_decides : (a b : Pair) → Decides ((a.i_number == b.i_number) && bytes_eq a.digest b.digest) (a ≡ b)
pair_decides a b =
    Decides-like _ (λ (both : (a.i_number ≡ b.i_number) × (a.digest ≡ b.digest)). pair_is a b both.0 both.1)
    (λ (e : a ≡ b). (ap (λ (p : Pair). p.i_number) e, ap (λ (p : Pair). p.digest) e))
    (Decides-and _ _ (Decides-eqb a.i_number b.i_number) (bytes_eq-Decides a.digest b.digest))
