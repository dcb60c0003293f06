-- A table is known by its handle.
use Rattle.std.proofs.Common.{◌≡◌, ℕ, ◌<◌, ◌≤◌, true, false, List, [], ◌∷◌, Option, Some, None, Result, Ok, refl, sym, ap, ◌∙◌, inl, inr, arith}
use Rattle.std.specs.Prelude.{IfSome}
use Rattle.std.specs.List.{All}
use Rattle.std.specs.Int.{w16}
use Rattle.std.specs.Option.{option_map}
use Rattle.std.specs.Ordering.{nat_cmp, is_eq}
use Rattle.std.proofs.lemmas.Bool.{cases_lt}
use Rattle.std.proofs.lemmas.Bool.Decides.{nat_tests}
use Rattle.std.proofs.lemmas.List.Elements.{All-head, All-tail}
use Rattle.layout.specs.Format.{whole}
use Rattle.layout.specs.Laws.{in_range}
use Rattle.layout.specs.Hash.{hash}
use Rattle.layout.specs.Ascending.{row_at}
use Rattle.layout.specs.declared.error.ReadError.{ReadError}
use Rattle.itable.specs.declared.chunk.Pair.{Pair}
use Rattle.itable.specs.declared.root.ListedChunk.{ListedChunk}
use Rattle.itable.specs.Chunk.{Chunk, chunk, chunk_number, i_number_of}
use Rattle.itable.specs.Root.{Root, root, number_of}
use Rattle.itable.specs.ITable.{ITable, IsPair, IsTable, IsWhole, loaded, digest_at, chunk_of, text_of_chunk, listing, root_of, handle_of, KeepApart}
use Rattle.itable.proofs.ChunkLaws.{chunk_reads, no_text, in_chunk}
use Rattle.itable.proofs.ListedLaws.{some_is, loaded_at, whole_loaded}
use Rattle.itable.proofs.RootLaws.{root_reads, lists, listed_as, loaded_listed}
use Rattle.itable.proofs.TableLaws.{same_table}

read_is : {A : Type 0} {x y : A} (r : Result A ReadError) → r ≡ Ok x → r ≡ Ok y → x ≡ y
read_is r first second = cc

-- ---- the roots

same_root : (t u : ITable) → IsTable t → IsTable u → root.spell (root_of u) ≡ root.spell (root_of t) → root_of u ≡ root_of t
same_root t u is one same = read_is (whole root (root.spell (root_of u))) (root_reads u one) (ap (whole root) same ∙ root_reads t is)

same_listing : (t u : ITable) → IsTable t → IsTable u → root_of u ≡ root_of t → (n : ℕ) → n < 64 → listing u n ≡ listing t n
same_listing t u is one same n small = sym (lists u n one small) ∙ ap (λ (r : Root). row_at nat_cmp number_of r.chunks n) same ∙ lists t n is small

-- ---- the chunks

same_text : (n : ℕ) (x y : Option (List ℕ)) → ((a b : List ℕ) → x ≡ Some a → y ≡ Some b → hash a ≡ hash b → a ≡ b) → listed_as n x ≡ listed_as n y → x ≡ y
same_text n None None apart same = refl
same_text n None (Some b) apart same = absurd cc
same_text n (Some a) None apart same = absurd cc
same_text n (Some a) (Some b) apart same = ap Some (apart a b refl refl (ap (λ (c : ListedChunk). c.digest) (some_is same)))

read_by : (x : Option (List ℕ)) (c d : Chunk) → IfSome x (λ text. whole chunk text ≡ Ok c) → IfSome x (λ text. whole chunk text ≡ Ok d) → (x ≡ None → ⊥) → c ≡ d
read_by None c d first second some = absurd (some refl)
read_by (Some text) c d first second some = read_is (whole chunk text) first second

-- an i-number of a chunk has the same digest in both
same_in : (t u : ITable) → IsTable t → IsTable u → (i : ℕ) → chunk_number i < 64 → (x : Option (List ℕ)) → text_of_chunk u (chunk_number i) ≡ x → text_of_chunk t (chunk_number i) ≡ x → digest_at u i ≡ digest_at t i
same_in t u is one i small None first second =
    (no_text u (chunk_number i)).0 first i refl ∙ sym ((no_text t (chunk_number i)).0 second i refl)
same_in t u is one i small (Some text) first second =
    let c : whole chunk text ≡ Ok (chunk_of (chunk_number i) u) = rw first at (chunk_reads u (chunk_number i) one small) in
    let d : whole chunk text ≡ Ok (chunk_of (chunk_number i) t) = rw second at (chunk_reads t (chunk_number i) is small) in
    let same : chunk_of (chunk_number i) u ≡ chunk_of (chunk_number i) t = read_is (whole chunk text) c d in
    in_chunk u i ∙ ap (λ (k : Chunk). option_map (λ p. p.digest) (row_at nat_cmp i_number_of k.pairs i)) same ∙ sym (in_chunk t i)

-- nothing stands beyond the last i-number
none_beyond : (ps : List Pair) (i : ℕ) → All IsPair ps → 4096 ≤ i → row_at nat_cmp i_number_of ps i ≡ None
none_beyond [] i all far = refl
none_beyond (p ∷ ps) i all far =
    let range = in_range w16 1 4095 p.i_number (All-head IsPair p ps all).0 in
    let apart : (p.i_number ≡ i → ⊥) = λ e. omega (arith, range.1) in
    let other : is_eq (nat_cmp p.i_number i) ≡ false = grind (arith, nat_tests, apart) in
    rw other (none_beyond ps i (All-tail IsPair p ps all) far)

-- tables of one handle have the same digest where both are loaded
pub same_digest : (t u : ITable) → IsTable t → IsTable u → KeepApart t u → handle_of u ≡ handle_of t → (i : ℕ) → loaded t i ≡ true → loaded u i ≡ true → digest_at u i ≡ digest_at t i
same_digest t u is one apart same i here there =
    let n = chunk_number i in
    elim (cases_lt i 4096) [
      | inl near ↦
          let small : chunk_number i < 64 = omega arith in
          let listed = sym (loaded_listed u n (loaded_at u i there)) ∙ same_listing t u is one (same_root t u is one (apart.roots same)) n small ∙ loaded_listed t n (loaded_at t i here) in
          same_in t u is one i small (text_of_chunk t n) (same_text n (text_of_chunk u n) (text_of_chunk t n) (apart.chunks n) listed) refl
      | inr far ↦ ap (option_map (λ p. p.digest)) (none_beyond u.pairs i one.of_pairs far ∙ sym (none_beyond t.pairs i is.of_pairs far))
    ]

pub known_by_handle : (t u : ITable) → IsTable t → IsTable u → IsWhole t → IsWhole u → KeepApart t u → handle_of u ≡ handle_of t → u ≡ t
known_by_handle t u is one all every apart same =
    same_table u t one is (ap (λ (r : Root). r.principal) (same_root t u is one (apart.roots same))) (every ∙ sym all)
    (λ i. same_digest t u is one apart same i (whole_loaded t i all) (whole_loaded u i every))
