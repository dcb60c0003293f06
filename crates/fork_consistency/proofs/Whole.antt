-- An i-table that is whole among texts is told by them, and stays whole as a client changes it.
use Rattle.std.proofs.Common.{◌≡◌, ℕ, ◌<◌, ◌≤◌, Bool, true, false, List, [], ◌∷◌, ◌++◌, Option, Some, None, refl, sym, ap, ◌∙◌, subst, inl, inr, if◌then◌else◌, option_map, arith}
use Rattle.std.specs.Prelude.{◌⊎◌, filter, filter_map, not}
use Rattle.std.specs.List.{All, Contains, range_with_len}
use Rattle.std.specs.Int.{w16}
use Rattle.std.specs.Option.{is_some, option_and_then}
use Rattle.std.specs.Ordering.{nat_cmp}
use Rattle.std.specs.Result.{result_ok}
use Rattle.std.specs.Str.{bytes_eq}
use Rattle.std.proofs.lemmas.Bool.{cases_lt, eq-eqb}
use Rattle.std.proofs.lemmas.List.Elements.{All-weaker}
use Rattle.std.proofs.lemmas.Slice.Eq.{bytes_eq-Decides}
use Rattle.layout.specs.Ascending.{row_at}
use Rattle.layout.specs.AscendingLaws.{HasOther, no_row}
use Rattle.layout.specs.Format.{whole}
use Rattle.layout.specs.Hash.{hash}
use Rattle.layout.specs.Laws.{in_range, whole_again}
use Rattle.layout.specs.Types.{Bytes, Digest, Handle, Principal}
use Rattle.itable.specs.declared.chunk.Pair.{Pair}
use Rattle.itable.specs.declared.root.ListedChunk.{ListedChunk}
use Rattle.itable.specs.File.{NoneCollide}
use Rattle.itable.specs.Chunk.{Chunk, chunk, chunk_number, i_number_of}
use Rattle.itable.specs.ChunkLaws.{lawful_chunk}
use Rattle.itable.specs.ITable.{ITable, IsListed, IsPair, IsTable, chunk_of, digest_at, digest_in, handle_of as table_handle, is_in, is_same_text, loaded, new_chunk, new_texts, root_of, root_text, text_of_chunk, texts as table_texts, unloaded_at}
use Rattle.itable.specs.Root.{Root, chunk_at, number_of, root}
use Rattle.itable.proofs.ChunkLaws.{in_chunk, no_text}
use Rattle.itable.proofs.LoadLaws.{IsOf, of_chunk}
use Rattle.itable.proofs.ListedLaws.{loaded_at, row_holds}
use Rattle.itable.proofs.RootLaws.{listed_as, lists, loaded_listed, root_reads, unloaded_listed}
use Rattle.itable.proofs.Runs.{other_key}
use Rattle.tree_parts.specs.Blocks.{Blocks, chunk_held, inode_told, root_at, told_by, told_under}
use Rattle.tree_parts.specs.Slots.{changed_texts}
use Rattle.client_tree.specs.Tree.{IsStored, IsUntouched, Stored, principals_texts}
use Rattle.client_tree.specs.View.{View, handle_of}
use Rattle.agreement.proofs.Members.{In, contains_in, in-left, in-right, in_contains}
use Rattle.fork_consistency.proofs.Among.{AreAmong, all_held, are_within, told_within}
use Rattle.fork_consistency.proofs.Lists.{filter_map-in, in_range_list}
use Rattle.fork_consistency.specs.Handles.{HasChunk, IsWhole, told_by_texts}
use Rattle.fork_consistency.proofs.Chunks.{chunk_fits, kept_ascend, kept_pairs, none_far, same_in_chunk, some_is, text_is}

-- the texts of a table
pub root_there : (t : ITable) → In (root_text t) (table_texts t)
unfolding table_texts
root_there t = in-right (root_text t) (filter_map (text_of_chunk t) (range_with_len 0 64)) (root_text t ∷ []) (inl refl)

pub chunk_there : (t : ITable) (n : ℕ) (text : Bytes) → n < 64 → text_of_chunk t n ≡ Some text → In text (table_texts t)
unfolding table_texts
chunk_there t n text small has =
    in-left text (filter_map (text_of_chunk t) (range_with_len 0 64)) (root_text t ∷ []) (filter_map-in (text_of_chunk t) (range_with_len 0 64) n text (in_range_list 0 64 n (omega arith) (omega arith)) has)

-- they are among its new texts, where the table before hasn't these very texts
root_new : (before t : ITable) → bytes_eq (root_text t) (root_text before) ≡ false → In (root_text t) (new_texts before t)
unfolding new_texts
root_new before t other =
    in-right (root_text t) (filter_map (new_chunk before t) (range_with_len 0 64)) (if bytes_eq (root_text t) (root_text before) then [] else root_text t ∷ [])
    (subst (λ (b : Bool). In (root_text t) (if b then [] else root_text t ∷ [])) (sym other) (inl refl))

chunk_new : (before t : ITable) (n : ℕ) (text : Bytes) → n < 64 → text_of_chunk t n ≡ Some text → is_same_text (text_of_chunk before n) (text_of_chunk t n) ≡ false → In text (new_texts before t)
unfolding new_texts
chunk_new before t n text small has other =
    in-left text (filter_map (new_chunk before t) (range_with_len 0 64)) (if bytes_eq (root_text t) (root_text before) then [] else root_text t ∷ [])
    (filter_map-in (new_chunk before t) (range_with_len 0 64) n text (in_range_list 0 64 n (omega arith) (omega arith)) (ap (λ (b : Bool). if b then None else text_of_chunk t n) other ∙ has))

same_text : (old new : Option Bytes) (text : Bytes) → new ≡ Some text → is_same_text old new ≡ true → old ≡ Some text
same_text None new text has e = absurd (cc e)
same_text (Some a) None text has e = absurd (cc has)
same_text (Some a) (Some b) text has e = ap (λ (y : Bytes). Some y) ((bytes_eq-Decides a b).0 e) ∙ has

-- ---- tables

-- beyond the chunks there are no digests
digest_far : (t : ITable) (i : ℕ) → IsTable t → 64 ≤ chunk_number i → digest_at t i ≡ None
digest_far t i is far =
    ap (option_map (λ (p : Pair). p.digest))
    (no_row nat_cmp i_number_of t.pairs i (All-weaker IsPair (HasOther nat_cmp i_number_of i) (λ p each. other_key p.i_number i (λ same. omega (arith, (in_range w16 1 4095 p.i_number each.0).1, same, far))) t.pairs is.of_pairs))

-- a loaded chunk that a root lists is that of a text
listed_text : (t : ITable) (n : ℕ) (c : ListedChunk) → IsTable t → n < 64 → unloaded_at t n ≡ None → chunk_at (root_of t) n ≡ Some c → (text : Bytes) × (text_of_chunk t n ≡ Some text) × (c.digest ≡ hash text)
listed_text t n c is small here at = go (text_of_chunk t n) refl (sym (lists t n is small ∙ loaded_listed t n here) ∙ at)
  where
    go : (o : Option Bytes) → text_of_chunk t n ≡ o → listed_as n o ≡ Some c → (text : Bytes) × (text_of_chunk t n ≡ Some text) × (c.digest ≡ hash text)
    go None has e = absurd (cc e)
    go (Some text) has e = (text, has, sym (ap (λ (x : ListedChunk). x.digest) (some_is e)))

text_listed : (t : ITable) (n : ℕ) (text : Bytes) → IsTable t → n < 64 → unloaded_at t n ≡ None → text_of_chunk t n ≡ Some text → chunk_at (root_of t) n ≡ Some (record { number = n; digest = hash text })
text_listed t n text is small here has = lists t n is small ∙ loaded_listed t n here ∙ ap (listed_as n) has

module _ (texts : List Bytes) where
  -- a chunk whose text is among the texts
  of_text : (t : ITable) (n : ℕ) (text : Bytes) (digest : Digest) → IsTable t → n < 64 → text_of_chunk t n ≡ Some text → digest ≡ hash text → In text texts → HasChunk texts n digest
  of_text t n text digest is small has named i =
      let spelled = text_is n t text has in
      record {
        one = chunk_of n t;
        fits = chunk_fits n t text is small has;
        number = refl;
        there = subst (λ (y : Bytes). Contains texts y) spelled (in_contains text texts i);
        named = named ∙ ap hash spelled;
      }

  -- a table is whole that is loaded, and all of whose texts are among these
  pub whole_table : (t : ITable) → IsTable t → t.unloaded ≡ [] → ((y : Bytes) → In y (table_texts t) → In y texts) → IsWhole texts t.principal (table_handle t)
  whole_table t is all inside = record {
    table = t;
    is_table = is;
    principal = refl;
    named = refl;
    root = in_contains (root_text t) texts (inside (root_text t) (root_there t));
    chunks = λ n c small at.
        let here : unloaded_at t n ≡ None = ap (λ (cs : List ListedChunk). row_at nat_cmp number_of cs n) all in
        let (text, has, named) = listed_text t n c is small here at in
        of_text t n text c.digest is small has named (inside text (chunk_there t n text small has));
  }

  module _ (apart : NoneCollide texts texts) where
    held_text : (text : Bytes) → Contains texts text → told_by_texts texts (hash text) ≡ Some text
    held_text text has = all_held texts apart text (contains_in text texts has)

    pub top_at : (t : ITable) → IsTable t → Contains texts (root_text t) → root_at (told_by_texts texts) (table_handle t) ≡ Some (root_of t)
    top_at t is has = ap (option_and_then (λ text. result_ok (whole root text))) (held_text (root_text t) has) ∙ ap result_ok (root_reads t is)

    under : (t : ITable) (p i : ℕ) → IsTable t → t.principal ≡ p → Contains texts (root_text t) → inode_told (told_by_texts texts) p (table_handle t) i ≡ told_by (told_by_texts texts) i (chunk_at (root_of t) (chunk_number i))
    under t p i is of has = ap (option_and_then (told_under (told_by_texts texts) p i)) (top_at t is has) ∙ (rw (eq-eqb t.principal p of) refl)

    held_chunk : (n : ℕ) (digest : Digest) → (h : HasChunk texts n digest) → chunk_held (told_by_texts texts) digest ≡ Some h.one
    held_chunk n digest h =
        ap (chunk_held (told_by_texts texts)) h.named
        ∙ ap (option_and_then (λ text. result_ok (whole chunk text))) (held_text (chunk.spell h.one) h.there) ∙ ap result_ok (whole_again chunk lawful_chunk h.one h.fits)

    -- what is told where a table is loaded whose root and loaded chunks are among the texts
    pub told_table : (t : ITable) (p i : ℕ) → IsTable t → t.principal ≡ p → Contains texts (root_text t)
        → ((n : ℕ) (text : Bytes) → n < 64 → unloaded_at t n ≡ None → text_of_chunk t n ≡ Some text → In text texts) → loaded t i ≡ true → inode_told (told_by_texts texts) p (table_handle t) i ≡ Some (digest_at t i)
    unfolding of_text
    told_table t p i is of has inside here = under t p i is of has ∙ go (cases_lt (chunk_number i) 64)
      where
        n : ℕ
        n = chunk_number i

        none : unloaded_at t n ≡ None
        none = loaded_at t i here

        near : n < 64 → (o : Option Bytes) → text_of_chunk t n ≡ o → told_by (told_by_texts texts) i (listed_as n o) ≡ Some (digest_at t i)
        near small None at = ap (λ (d : Option Digest). Some d) (sym ((no_text t n).0 at i refl))
        near small (Some text) at =
            let h = of_text t n text (hash text) is small at refl (inside n text small none at) in
            ap (option_map (λ (x : Chunk). digest_in x.pairs i)) (held_chunk n (hash text) h) ∙ ap (λ (d : Option Digest). Some d) (sym (in_chunk t i))

        go : (n < 64) ⊎ (64 ≤ n) → told_by (told_by_texts texts) i (chunk_at (root_of t) n) ≡ Some (digest_at t i)
        go (inl small) = ap (told_by (told_by_texts texts) i) (lists t n is small ∙ loaded_listed t n none) ∙ near small (text_of_chunk t n) refl
        go (inr far) = ap (told_by (told_by_texts texts) i) (none_far t is n far) ∙ ap (λ (d : Option Digest). Some d) (sym (digest_far t i is far))

    module _ (p : Principal) (h : Handle) (w : IsWhole texts p h) where
      pub named_under : (i : ℕ) → inode_told (told_by_texts texts) p h i ≡ told_by (told_by_texts texts) i (chunk_at (root_of w.table) (chunk_number i))
      named_under i = ap (λ (x : Handle). inode_told (told_by_texts texts) p x i) w.named ∙ under w.table p i w.is_table w.principal w.root

      -- what a listed chunk tells
      pub told_listed : (i : ℕ) (c : ListedChunk) → chunk_at (root_of w.table) (chunk_number i) ≡ Some c → (x : HasChunk texts (chunk_number i) c.digest) → inode_told (told_by_texts texts) p h i ≡ Some (digest_in x.one.pairs i)
      told_listed i c at x =
          named_under i ∙ ap (told_by (told_by_texts texts) i) at ∙ ap (option_map (λ (y : Chunk). digest_in y.pairs i)) (held_chunk (chunk_number i) c.digest x)

      -- at each i-number it is told whether there is a digest, and which
      pub told : (i : ℕ) → (d : Option Digest) × (inode_told (told_by_texts texts) p h i ≡ Some d)
      told i = go (chunk_at (root_of w.table) (chunk_number i)) refl
        where
          go : (o : Option ListedChunk) → chunk_at (root_of w.table) (chunk_number i) ≡ o → (d : Option Digest) × (inode_told (told_by_texts texts) p h i ≡ Some d)
          go None at = (None, named_under i ∙ ap (told_by (told_by_texts texts) i) at)
          go (Some c) at = elim (cases_lt (chunk_number i) 64) [
            | inl small ↦ (let x = w.chunks (chunk_number i) c small at in (digest_in x.one.pairs i, told_listed i c at x))
            | inr far ↦ absurd (cc (sym at ∙ none_far w.table w.is_table (chunk_number i) far))
          ]

    -- ---- the part that a client makes

    module _ (blocks : Blocks) (among : AreAmong texts blocks) (x : View) (s : Stored) (st : IsStored blocks x s) (inside : (t : Bytes) → In t s.texts → In t texts) (old : IsWhole texts s.principal (handle_of x s.principal)) where
      abbrev before : ITable
      before = st.part.before

      abbrev p : Principal
      p = s.principal

      stands : table_handle before ≡ handle_of x p
      stands = st.opened.after.stands_on

      root_within : (d : Handle) (r : Root) → root_at blocks d ≡ Some r → root_at (told_by_texts texts) d ≡ Some r
      root_within d r is = go (blocks d) refl is
        where
          go : (o : Option Bytes) → blocks d ≡ o → option_and_then (λ text. result_ok (whole root text)) o ≡ Some r → root_at (told_by_texts texts) d ≡ Some r
          go None none e = absurd (cc e)
          go (Some text) there e = ap (option_and_then (λ text. result_ok (whole root text))) (are_within texts apart blocks among d text there) ∙ e

      -- it is the root that the handle names
      same_root : root_of before ≡ root_of old.table
      same_root =
          let held : root_at (told_by_texts texts) (handle_of x p) ≡ Some (root_of before) = ap (root_at (told_by_texts texts)) (sym stands) ∙ root_within (table_handle before) (root_of before) st.opened.read.root in
          some_is (sym held ∙ ap (root_at (told_by_texts texts)) old.named ∙ top_at old.table old.is_table old.root)

      told_before : (i : ℕ) → loaded before i ≡ true → inode_told (told_by_texts texts) p (handle_of x p) i ≡ Some (digest_at before i)
      told_before i here =
          let same : inode_told blocks st.part.table.principal (table_handle before) i ≡ inode_told blocks p (handle_of x p) i =
          ap (λ (q : ℕ). inode_told blocks q (table_handle before) i) st.opened.after.principal ∙ ap (λ (h : Handle). inode_told blocks p h i) stands in
          told_within blocks (told_by_texts texts) (are_within texts apart blocks among) p (handle_of x p) i (digest_at before i) (sym same ∙ st.opened.read.told i here)

      -- a chunk that was loaded is among the texts
      loaded_in : (n : ℕ) (text : Bytes) → n < 64 → unloaded_at before n ≡ None → text_of_chunk before n ≡ Some text → In text texts
      loaded_in n text small none has =
          let c : ListedChunk = record { number = n; digest = hash text } in
          let listed : chunk_at (root_of old.table) n ≡ Some c = ap (λ (r : Root). chunk_at r n) (sym same_root) ∙ text_listed before n text st.before_well_formed small none has in
          let h = old.chunks n c small listed in
          let pairs = of_chunk h.one h.fits in
          let of_n : All (IsOf n) h.one.pairs = subst (λ (m : ℕ). All (IsOf m) h.one.pairs) h.number pairs.0 in
          let same : filter (is_in n) before.pairs ≡ h.one.pairs =
          same_in_chunk n (filter (is_in n) before.pairs) h.one.pairs (kept_pairs n before.pairs st.before_well_formed.of_pairs) of_n (kept_ascend n None before.pairs st.before_well_formed.ascending) pairs.1 (λ i here. agree i here listed h) in
          let spelled : text ≡ chunk.spell h.one =
          text_is n before text has ∙ ap (λ (ps : List Pair). chunk.spell (record { number = n; pairs = ps })) same ∙ ap (λ (m : ℕ). chunk.spell (record { number = m; pairs = h.one.pairs })) (sym h.number) in
          contains_in text texts (subst (λ (y : Bytes). Contains texts y) (sym spelled) h.there)
        where
          agree : (i : ℕ) → chunk_number i ≡ n → chunk_at (root_of old.table) n ≡ Some (record { number = n; digest = hash text }) → (h : HasChunk texts n (hash text)) → digest_in (filter (is_in n) before.pairs) i ≡ digest_in h.one.pairs i
          agree i here listed h =
              let is_loaded : loaded before i ≡ true = ap (λ (o : Option ListedChunk). not (is_some o)) (ap (unloaded_at before) here ∙ none) in
              let at : chunk_at (root_of old.table) (chunk_number i) ≡ Some (record { number = n; digest = hash text }) = ap (chunk_at (root_of old.table)) here ∙ listed in
              let h_at : HasChunk texts (chunk_number i) (hash text) = record { one = h.one; fits = h.fits; number = h.number ∙ sym here; there = h.there; named = h.named } in
              let told = told_listed p (handle_of x p) old i (record { number = n; digest = hash text }) at h_at in
              ap (λ (m : ℕ). digest_in (filter (is_in m) before.pairs) i) (sym here) ∙ sym (in_chunk before i) ∙ some_is (sym (told_before i is_loaded) ∙ told)

      -- ---- after the operation

      new_in : (t : Bytes) → In t (new_texts before st.table) → In t texts
      new_in t i =
          let changed = changed_texts blocks before st.part.table st.part.opened in
          let users = principals_texts blocks before p x.table in
          inside t (subst (λ (ts : List Bytes). In t ts) (sym st.stored) (in-right t (changed ++ users) (new_texts before st.table) i))

      same_unloaded : (n : ℕ) → unloaded_at before n ≡ unloaded_at st.table n
      same_unloaded n = ap (λ (cs : List ListedChunk). row_at nat_cmp number_of cs n) (st.is_part.unloaded ∙ sym st.carried)

      -- so are its chunks then
      pub chunk_in : (n : ℕ) (text : Bytes) → n < 64 → unloaded_at st.table n ≡ None → text_of_chunk st.table n ≡ Some text → In text texts
      chunk_in n text small none has = go (is_same_text (text_of_chunk before n) (text_of_chunk st.table n)) refl
        where
          go : (b : Bool) → is_same_text (text_of_chunk before n) (text_of_chunk st.table n) ≡ b → In text texts
          go false other = new_in text (chunk_new before st.table n text small has other)
          go true same = loaded_in n text small (same_unloaded n ∙ none) (same_text (text_of_chunk before n) (text_of_chunk st.table n) text has same)

      pub root_in : Contains texts (root_text st.table)
      root_in = go (bytes_eq (root_text st.table) (root_text before)) refl
        where
          go : (b : Bool) → bytes_eq (root_text st.table) (root_text before) ≡ b → Contains texts (root_text st.table)
          go false other = in_contains (root_text st.table) texts (new_in (root_text st.table) (root_new before st.table other))
          go true same =
              let spelled : root_text st.table ≡ root_text old.table = (bytes_eq-Decides (root_text st.table) (root_text before)).0 same ∙ ap (λ (r : Root). root.spell r) same_root in
              subst (λ (y : Bytes). Contains texts y) (sym spelled) old.root

      chunks_there : (n : ℕ) (c : ListedChunk) → n < 64 → chunk_at (root_of st.table) n ≡ Some c → HasChunk texts n c.digest
      chunks_there n c small at = go (unloaded_at st.table n) refl
        where
          go : (o : Option ListedChunk) → unloaded_at st.table n ≡ o → HasChunk texts n c.digest
          go (Some y) is =
              let same : y ≡ c = some_is (sym (lists st.table n st.well_formed small ∙ unloaded_listed st.table n y is) ∙ at) in
              let listed : chunk_at (root_of old.table) n ≡ Some y =
              ap (λ (r : Root). chunk_at r n) (sym same_root) ∙ lists before n st.before_well_formed small ∙ unloaded_listed before n y (same_unloaded n ∙ is) in
              subst (λ (z : ListedChunk). HasChunk texts n z.digest) same (old.chunks n y small listed)
          go None none =
              let (text, has, named) = listed_text st.table n c st.well_formed small none at in
              of_text st.table n text c.digest st.well_formed small has named (chunk_in n text small none has)

      -- all of the i-table is, as it was before
      pub stays_whole : IsWhole texts p s.handle
      stays_whole = record {
        table = st.table;
        is_table = st.well_formed;
        principal = st.principal;
        named = st.named;
        root = root_in;
        chunks = chunks_there;
      }

      -- what is told of it then, where its chunks were loaded
      pub told_after : (i : ℕ) → loaded st.table i ≡ true → inode_told (told_by_texts texts) p s.handle i ≡ Some (digest_at st.table i)
      told_after i here = ap (λ (h : Handle). inode_told (told_by_texts texts) p h i) st.named ∙ told_table st.table p i st.well_formed st.principal root_in chunk_in here

      -- where they weren't, it is what the handle before tells
      pub told_unloaded : (i : ℕ) → loaded st.table i ≡ false → inode_told (told_by_texts texts) p s.handle i ≡ inode_told (told_by_texts texts) p (handle_of x p) i
      told_unloaded i other = go (unloaded_at st.table (chunk_number i)) refl other
        where
          n : ℕ
          n = chunk_number i

          go : (o : Option ListedChunk) → unloaded_at st.table n ≡ o → not (is_some o) ≡ false → inode_told (told_by_texts texts) p s.handle i ≡ inode_told (told_by_texts texts) p (handle_of x p) i
          go None none e = absurd (cc e)
          go (Some c) is e =
              let row = row_holds IsListed st.table.unloaded n c st.well_formed.of_unloaded is in
              let small : n < 64 = omega (arith, row.0.0, row.1) in
              let new : chunk_at (root_of st.table) n ≡ Some c = lists st.table n st.well_formed small ∙ unloaded_listed st.table n c is in
              let was : chunk_at (root_of old.table) n ≡ Some c = ap (λ (r : Root). chunk_at r n) (sym same_root) ∙ lists before n st.before_well_formed small ∙ unloaded_listed before n c (same_unloaded n ∙ is) in
              ap (λ (h : Handle). inode_told (told_by_texts texts) p h i) st.named ∙ under st.table p i st.well_formed st.principal root_in
              ∙ ap (told_by (told_by_texts texts) i) (new ∙ sym was) ∙ sym (named_under p (handle_of x p) old i)

    -- the part of a principal is whole after the operation, whether it has changes of it or not
    pub part_whole : (blocks : Blocks) (x : View) (s : Stored) → AreAmong texts blocks → (IsStored blocks x s ⊎ IsUntouched x s) → ((t : Bytes) → In t s.texts → In t texts) → IsWhole texts s.principal (handle_of x s.principal) → IsWhole texts s.principal s.handle
    part_whole blocks x s among (inl st) inside old = stays_whole blocks among x s st inside old
    part_whole blocks x s among (inr u) inside old = subst (IsWhole texts s.principal) (sym u.named) old
