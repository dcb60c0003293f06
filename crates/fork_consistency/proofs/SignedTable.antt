-- The handle that user 0 signs names the table of principals of its view: the texts of that file are among those of the
-- run, whether they are new or were held.
use Rattle.std.proofs.Common.{◌≡◌, ℕ, ◌≤◌, Bool, true, false, List, [], ◌∷◌, ◌++◌, length, map, Option, Some, None, refl, sym, ap, ◌∙◌, subst, inl, inr, option_map}
use Rattle.std.specs.List.{concat, list_all}
use Rattle.std.specs.Option.{is_some, option_and_then, option_map_or}
use Rattle.std.specs.Str.{bytes_eq}
use Rattle.std.proofs.lemmas.Bool.{and_parts, eq-eqb}
use Rattle.std.proofs.lemmas.Slice.Eq.{bytes_eq-Decides}
use Rattle.layout.specs.Hash.{hash}
use Rattle.layout.specs.Types.{Bytes, Digest, Handle}
use Rattle.itable.specs.File.{NoneCollide, blocks_of, inode_of}
use Rattle.itable.specs.Inode.{Inode, inode}
use Rattle.itable.specs.ITable.{ITable, new_texts}
use Rattle.itable.proofs.FileLaws.{file_fits, joined as blocks_joined}
use Rattle.principals.specs.Table.{Table}
use Rattle.principals.specs.TableText.{table}
use Rattle.update_cert.specs.World.{Content}
use Rattle.tree_parts.specs.Blocks.{Blocks, file_over, if_of_size, inode_told, joined}
use Rattle.tree_parts.specs.Slots.{changed_texts, has_digest, holds}
use Rattle.tree_parts.proofs.Contents.{file_is, inode_held}
use Rattle.tree_parts.proofs.LoadLaws.{mapped_loaded}
use Rattle.client_tree.specs.Tree.{IsStored, Stored, file_of_principals, has_principals, principals_digest, principals_texts}
use Rattle.client_tree.specs.View.{View, handle_of}
use Rattle.agreement.proofs.Members.{In, in-left, in-right}
use Rattle.agreement.proofs.Tests.{all_in}
use Rattle.fork_consistency.proofs.Among.{AreAmong, all_held}
use Rattle.fork_consistency.specs.Handles.{IsWhole, NamesTableAmong, told_by_texts}
use Rattle.fork_consistency.proofs.Whole.{told_after}

-- a text that is held is among the texts
pub held_in : (texts : List Bytes) (blocks : Blocks) → AreAmong texts blocks → (text : Bytes) → holds blocks text ≡ true → In text texts
held_in texts blocks among text is = go (blocks (hash text)) refl is
  where
    go : (o : Option Bytes) → blocks (hash text) ≡ o → option_map_or (λ held. bytes_eq held text) o false ≡ true → In text texts
    go None at e = absurd (cc e)
    go (Some held) at e = subst (λ (y : Bytes). In y texts) ((bytes_eq-Decides held text).0 e) (among (hash text) held at).0

module _ (texts : List Bytes) (apart : NoneCollide texts texts) where
  joined_held : (bs : List Bytes) → ((t : Bytes) → In t bs → In t texts) → joined (told_by_texts texts) (map hash bs) ≡ Some (concat bs)
  unfolding joined
  joined_held [] inside = refl
  joined_held (b ∷ bs) inside = rw (all_held texts apart b (inside b (inl refl))) (ap (option_map (λ (rest : Bytes). b ++ rest)) (joined_held bs (λ t i. inside t (inr i))))

  -- the table whose i-node's digest is told at its place, where the texts of its file are among these
  pub table_named : (handle : Handle) (t : Table) → length (table.spell t) ≤ 4194304 → inode_told (told_by_texts texts) 0 handle 1 ≡ Some (Some (principals_digest t)) → ((y : Bytes) → In y (file_of_principals t) → In y texts) → NamesTableAmong texts handle t
  table_named handle t few told inside = λ reads agrees.
      let bytes = table.spell t in
      let n : Inode = inode_of bytes in
      let blocks = blocks_of bytes in
      let last = inode.spell n ∷ [] in
      let over : file_over (told_by_texts texts) n ≡ Some bytes =
      ap (option_and_then (if_of_size n.size)) (joined_held blocks (λ y i. inside y (in-left y blocks last i)) ∙ ap (λ (x : Bytes). Some x) (blocks_joined bytes)) ∙ (rw (eq-eqb (length bytes) (length bytes) refl) refl) in
      ap (option_map reads.content) (agrees.inodes 0 handle 1 (Some (hash (inode.spell n))) told)
      ∙ ap (λ (c : Content). Some c)
      (file_is (told_by_texts texts) reads (hash (inode.spell n)) bytes n agrees
      (inode_held (told_by_texts texts) n (file_fits bytes few) (all_held texts apart (inode.spell n) (inside (inode.spell n) (in-right (inode.spell n) blocks last (inl refl))))) refl over)

  module _ (blocks : Blocks) (among : AreAmong texts blocks) (x : View) (s : Stored) (st : IsStored blocks x s) (inside : (t : Bytes) → In t s.texts → In t texts) (zero : s.principal ≡ 0) where
    abbrev before : ITable
    before = st.part.before

    users_in : (t : Bytes) → In t (principals_texts blocks before s.principal x.table) → In t texts
    users_in t i =
        let changed = changed_texts blocks before st.part.table st.part.opened in
        let users = principals_texts blocks before s.principal x.table in
        inside t (subst (λ (ts : List Bytes). In t ts) (sym st.stored) (in-left t (changed ++ users) (new_texts before st.table) (in-right t changed users i)))

    pub file_in : (t : Bytes) → In t (file_of_principals x.table) → In t texts
    file_in t i = go (has_principals blocks before x.table) refl
      where
        go : (b : Bool) → has_principals blocks before x.table ≡ b → In t texts
        go true had =
            let all = (and_parts (has_digest before 1 (principals_digest x.table)) (list_all (holds blocks) (file_of_principals x.table)) had).1 in
            held_in texts blocks among t (all_in (holds blocks) (file_of_principals x.table) all t i)
        go false new =
            let are : principals_texts blocks before s.principal x.table ≡ file_of_principals x.table = rw (eq-eqb s.principal 0 zero, new) refl in
            users_in t (subst (λ (ts : List Bytes). In t ts) (sym are) i)

    pub signs_table : length (table.spell x.table) ≤ 4194304 → IsWhole texts s.principal (handle_of x s.principal) → NamesTableAmong texts s.handle x.table
    signs_table few old =
        let told =
        told_after texts apart blocks among x s st inside old 1 (mapped_loaded st.table 1 st.well_formed (ap is_some (st.users zero))) in
        table_named s.handle x.table few
        (ap (λ (p : ℕ). inode_told (told_by_texts texts) p s.handle 1) (sym zero) ∙ told ∙ ap (λ (o : Option Digest). Some o) (st.users zero)) file_in
