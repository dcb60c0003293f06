-- All that a handle names is among texts: of the handles of the beginning, and of each that a client makes of a part.
use Rattle.std.proofs.Common.{◌≡◌, ℕ, ◌<◌, ◌≤◌, Bool, true, false, ◌==◌, List, [], ◌∷◌, ◌++◌, length, Option, Some, None, refl, sym, ap, ◌∙◌, subst, inl, inr, if◌then◌else◌, option_map, arith}
use Rattle.std.specs.Prelude.{◌⊎◌, is_some}
use Rattle.std.specs.List.{list_all}
use Rattle.std.specs.Ordering.{is_eq, nat_cmp}
use Rattle.std.proofs.lemmas.Bool.{and_parts}
use Rattle.std.proofs.lemmas.Bool.Decides.{nat_tests}
use Rattle.layout.specs.Ascending.{row_at}
use Rattle.layout.specs.Hash.{hash}
use Rattle.layout.specs.Types.{Bytes, Digest, INumber, Key, Principal}
use Rattle.itable.specs.declared.chunk.Pair.{Pair}
use Rattle.itable.specs.File.{NoneCollide, inode_of}
use Rattle.itable.specs.Inode.{inode}
use Rattle.itable.specs.ITable.{digest_at, digest_in, loaded, new_texts}
use Rattle.directory.specs.Directory.{Entry}
use Rattle.principals.specs.Table.{genesis}
use Rattle.principals.specs.TableText.{table, key as key_form}
use Rattle.principals.proofs.Users.{first_fits}
use Rattle.update_cert.specs.World.{is_table}
use Rattle.tree_parts.specs.Blocks.{Blocks, inode_told}
use Rattle.tree_parts.specs.Part.{Open, Slot, Laid, Changed, number_of, slot_here, slot_of}
use Rattle.tree_parts.specs.Slots.{changed_texts, directory_digest, directory_texts, holds, is_stored, slot_digest}
use Rattle.tree_parts.specs.declared.scope.Scope.TheVariants as scopes
use Rattle.tree_parts.proofs.LoadLaws.{loaded_as, mapped_loaded, slot_loaded}
use Rattle.client_tree.specs.Genesis.{first_handle, first_pairs, first_table, first_texts, inode_digest, root_inode, table_inode}
use Rattle.client_tree.specs.Opened.{items_on}
use Rattle.client_tree.specs.Tree.{IsStored, IsUntouched, Stored, principals_digest, principals_texts}
use Rattle.client_tree.specs.View.{View, handle_of}
use Rattle.client_verify.proofs.GenesisLaws.{length-table_text}
use Rattle.agreement.proofs.Members.{In, flat_map-in, in-left}
use Rattle.agreement.proofs.Tests.{all_in}
use Rattle.fork_consistency.specs.Handles.{told_by_texts}
use Rattle.fork_consistency.proofs.Among.{AreAmong}
use Rattle.fork_consistency.proofs.Backed.{IsBacked, laid_here, reads}
use Rattle.fork_consistency.proofs.Chunks.{some_is}
use Rattle.fork_consistency.proofs.Firsts.{first_file_in, first_text, first_told, first_whole}
use Rattle.fork_consistency.proofs.LaidOut.{directory_content, root_content, table_content}
use Rattle.fork_consistency.proofs.Served.{IsContent, IsFilled, IsTableFile}
use Rattle.fork_consistency.proofs.SignedTable.{file_in, held_in}
use Rattle.fork_consistency.proofs.Whole.{part_whole, told_after, told_unloaded}

row_in : {T : Type 0} (key : T → ℕ) (xs : List T) (k : ℕ) (x : T) → row_at nat_cmp key xs k ≡ Some x → In x xs
row_in key [] k x e = absurd (cc e)
row_in {T} key (y ∷ ys) k x e = go (is_eq (nat_cmp (key y) k)) (row_in key ys k x) e
  where
    go : (b : Bool) → (row_at nat_cmp key ys k ≡ Some x → In x ys) → (if b then Some y else row_at nat_cmp key ys k) ≡ Some x → In x (y ∷ ys)
    go true ih at = let one : y ≡ x = cc at in inl (sym one)
    go false ih at = inr (ih at)

-- ---- the beginning

module _ (key : Key) (texts : List Bytes) (apart : NoneCollide texts texts) (first : (t : Bytes) → In t (first_texts key) → In t texts) (pinned : key_form.Fits key) where
  table_first : IsTableFile texts (inode_digest (table_inode key))
  table_first =
      let size = length-table_text key pinned.0.0 in
      let spelled = first_text key in
      subst (λ (b : Bytes). IsTableFile texts (hash (inode.spell (inode_of b)))) spelled
      (table_content texts (genesis key) (first_fits key pinned) (omega (arith, size, ap length spelled)) (first_file_in key size texts first))

  -- what user 0 has beside the table
  pair_content : (i : ℕ) (d : Digest) → (i == 1) ≡ false → digest_in (first_pairs key) i ≡ Some d → IsContent texts d
  pair_content i d other is = go (is_eq (nat_cmp 1 i)) refl (is_eq (nat_cmp 2 i)) is
    where
      one_is : is_eq (nat_cmp 1 i) ≡ true → (i == 1) ≡ true
      one_is e = grind (arith, nat_tests)

      go : (a : Bool) → is_eq (nat_cmp 1 i) ≡ a → (b : Bool)
          → option_map (λ (p : Pair). p.digest) (if a then Some (record { i_number = 1; digest = inode_digest (table_inode key) }) else if b then Some (record { i_number = 2; digest = inode_digest root_inode }) else None) ≡ Some d
          → IsContent texts d
      go true at b e = absurd (cc (sym other ∙ one_is at))
      go false at true e = subst (IsContent texts) (some_is e) (root_content texts key first)
      go false at false e = absurd (cc e)

  pub first_filled : (p : ℕ) → p < 96 → IsFilled texts p (first_handle p key)
  first_filled p low = record {
    all = first_whole key texts first p low;
    contents = λ i d told other. content i d other (some_is (sym (first_told key texts apart first p low i) ∙ told));
    users = users_first;
  }
    where
      content : (i : INumber) (d : Digest) → is_table p i ≡ false → digest_at (first_table p key) i ≡ Some d → IsContent texts d
      content i d other is = go (p == 0) refl is
        where
          go : (b : Bool) → (p == 0) ≡ b → digest_in (if b then first_pairs key else []) i ≡ Some d → IsContent texts d
          go true same e = pair_content i d (sym (rw same refl) ∙ other) e
          go false same e = absurd (cc e)

      users_first : p ≡ 0 → (d : Digest) × (inode_told (told_by_texts texts) p (first_handle p key) 1 ≡ Some (Some d)) × IsTableFile texts d
      users_first same = (
        inode_digest (table_inode key),
        first_told key texts apart first p low 1 ∙ ap (λ (q : ℕ). Some (digest_at (first_table q key) 1)) same,
        table_first,
      )

-- ---- a part that a client makes

module _ (texts : List Bytes) (apart : NoneCollide texts texts) (blocks : Blocks) (among : AreAmong texts blocks) (x : View) (backed : IsBacked texts x) where
  module _ (s : Stored) (st : IsStored blocks x s) (inside : (t : Bytes) → In t s.texts → In t texts) (low : s.principal < 96) where
    abbrev p : Principal
    p = s.principal

    abbrev old : IsFilled texts p (handle_of x p)
    old = backed.handles p low

    abbrev Told : Option Digest → INumber → Type 0
    Told o i = inode_told (told_by_texts texts) p s.handle i ≡ Some o

    -- a directory that changed
    changed_in : (o : Open) → In o st.part.opened → (t : Bytes) → In t (directory_texts o.entries) → In t texts
    unfolding changed_texts
    changed_in o i t j = go (is_stored blocks st.part.before st.part.table o) refl
      where
        stored_too : is_stored blocks st.part.before st.part.table o ≡ false → In t (changed_texts blocks st.part.before st.part.table st.part.opened)
        stored_too new = flat_map-in (λ (q : Open). if is_stored blocks st.part.before st.part.table q then [] else directory_texts q.entries) st.part.opened o t i (rw new j)

        go : (b : Bool) → is_stored blocks st.part.before st.part.table o ≡ b → In t texts
        go true had =
            let all = (and_parts _ (list_all (holds blocks) (directory_texts o.entries)) had).1 in
            held_in texts blocks among t (all_in (holds blocks) (directory_texts o.entries) all t j)
        go false new =
            inside t
            (subst (λ (ts : List Bytes). In t ts) (sym st.stored)
            (in-left t (changed_texts blocks st.part.before st.part.table st.part.opened ++ principals_texts blocks st.part.before p x.table) (new_texts st.part.before st.table)
            (in-left t (changed_texts blocks st.part.before st.part.table st.part.opened) (principals_texts blocks st.part.before p x.table) (stored_too new))))

    changed_content : (i : INumber) (laid : Digest) (entries : List Entry) → slot_here st.part i ≡ Some (Changed laid entries) → IsContent texts (directory_digest entries)
    changed_content i laid entries here =
        let back = st.read_back i laid entries here in
        directory_content texts entries back.fits back.inode_fits (go (digest_at st.part.table i) (row_at nat_cmp number_of st.part.opened i) refl here)
      where
        go : (d : Option Digest) (o : Option Open) → row_at nat_cmp number_of st.part.opened i ≡ o → option_map (slot_of (option_map (λ (q : Open). q.entries) o)) d ≡ Some (Changed laid entries) → (t : Bytes) → In t (directory_texts entries) → In t texts
        go None o at e = absurd (cc e)
        go (Some d) None at e = absurd (cc e)
        go (Some d) (Some o) at e =
            let same : o.entries ≡ entries = (let two : Changed d o.entries ≡ Changed laid entries = some_is e in cc two) in
            subst (λ (es : List Entry). (t : Bytes) → In t (directory_texts es) → In t texts) same (changed_in o (row_in number_of st.part.opened i o at))

    -- what stands at an i-number whose chunk is loaded
    slot_content : (i : INumber) (d : Digest) → loaded st.table i ≡ true → is_table p i ≡ false → option_map slot_digest (slot_here st.part i) ≡ Some d → IsContent texts d
    slot_content i d here other is = go (slot_here st.part i) refl is
      where
        here_too : loaded st.part.table i ≡ true
        here_too = loaded_as st.part.table st.table i (sym st.carried) ∙ here

        go : (o : Option Slot) → slot_here st.part i ≡ o → option_map slot_digest o ≡ Some d → IsContent texts d
        go None at e = absurd (cc e)
        go (Some (Laid f)) at e =
            subst (IsContent texts) (some_is e)
            (laid_here texts apart blocks among x backed p low scopes.All (items_on x p) (λ y j. j) st.part st.opened.after i f refl other (slot_loaded (reads texts apart blocks among x backed) st.part i here_too ∙ at))
        go (Some (Changed f entries)) at e = subst (IsContent texts) (some_is e) (changed_content i f entries at)

    told_content : (i : INumber) (d : Digest) → Told (Some d) i → is_table p i ≡ false → IsContent texts d
    told_content i d told other = go (loaded st.table i) refl
      where
        go : (b : Bool) → loaded st.table i ≡ b → IsContent texts d
        go true here =
            let at : digest_at st.table i ≡ Some d = some_is (sym (told_after texts apart blocks among x s st inside old.all i here) ∙ told) in
            slot_content i d here other (sym (st.digests i here other) ∙ at)
        go false far = old.contents i d (sym (told_unloaded texts apart blocks among x s st inside old.all i far) ∙ told) other

    pub stays_filled : (p ≡ 0 → table.Fits x.table × (length (table.spell x.table) ≤ 4194304)) → IsFilled texts p s.handle
    stays_filled fits = record {
      all = part_whole texts apart blocks x s among (inl st) inside old.all;
      contents = told_content;
      users = λ zero_is. (
        principals_digest x.table,
        told_after texts apart blocks among x s st inside old.all 1 (mapped_loaded st.table 1 st.well_formed (ap is_some (st.users zero_is))) ∙ ap (λ (o : Option Digest). Some o) (st.users zero_is),
        table_content texts x.table (fits zero_is).0 (fits zero_is).1 (file_in texts apart blocks among x s st inside zero_is),
      );
    }

  -- the part of a principal, whether the operation has changes of it or not
  pub part_filled : (s : Stored) → (IsStored blocks x s ⊎ IsUntouched x s) → ((t : Bytes) → In t s.texts → In t texts) → s.principal < 96 → (s.principal ≡ 0 → table.Fits x.table × (length (table.spell x.table) ≤ 4194304)) → IsFilled texts s.principal s.handle
  part_filled s (inl st) inside low fits = stays_filled s st inside low fits
  part_filled s (inr u) inside low fits = subst (IsFilled texts s.principal) (sym u.named) (backed.handles s.principal low)
