-- The handles of the beginning: all of their i-tables is among the texts of a run, which has those of the beginning.
use Rattle.std.proofs.Common.{◌≡◌, ℕ, ◌<◌, Bool, true, false, ◌==◌, List, [], ◌∷◌, ◌++◌, length, Some, refl, sym, ap, ◌∙◌, subst, inl, inr, if◌then◌else◌, arith}
use Rattle.std.specs.Prelude.{◌⊎◌, codes}
use Rattle.std.specs.Int.{w8, w16, w32}
use Rattle.std.specs.List.{flat_map}
use Rattle.std.proofs.lemmas.List.{append-nil}
use Rattle.std.proofs.lemmas.List.Elements.{All-cons, All-nil}
use Rattle.layout.specs.Ascending.{Ascends}
use Rattle.layout.specs.Format.{be, spell_rows}
use Rattle.layout.specs.HashLaws.{hash_fits}
use Rattle.layout.specs.Laws.{in_range_fits}
use Rattle.layout.specs.Types.{Bytes, Key}
use Rattle.itable.specs.declared.chunk.Pair.{Pair}
use Rattle.itable.specs.Inode.{inode}
use Rattle.itable.proofs.Blocks.{next_block, no_block}
use Rattle.itable.specs.File.{NoneCollide, blocks_of, inode_of}
use Rattle.itable.specs.ITable.{ITable, IsListed, IsPair, IsTable, digest_at, loaded, root_text}
use Rattle.principals.specs.Table.{genesis}
use Rattle.principals.specs.TableText.{table}
use Rattle.tree_parts.specs.Blocks.{inode_told}
use Rattle.client_tree.specs.Genesis.{common_texts, first_handle, first_pairs, first_table, first_table_texts, first_texts, inode_digest, principals, root_inode, table_inode, table_text}
use Rattle.client_tree.specs.Tree.{file_of_principals}
use Rattle.agreement.proofs.Members.{In, flat_map-in, in-append, in-left, in-right, in_contains}
use Rattle.fork_consistency.proofs.Lists.{in_range_list}
use Rattle.fork_consistency.specs.Handles.{IsWhole, told_by_texts}
use Rattle.fork_consistency.proofs.Whole.{chunk_there, root_there, told_table, whole_table}

module _ (key : Key) where
  abbrev table_pair : Pair
  table_pair = record { i_number = 1; digest = inode_digest (table_inode key) }

  abbrev root_pair : Pair
  root_pair = record { i_number = 2; digest = inode_digest root_inode }

  abbrev of_pairs : ℕ → Bool → ITable
  of_pairs p first = record { principal = p; pairs = if first then first_pairs key else []; unloaded = [] }

  is_table : (p : ℕ) → p < 96 → (first : Bool) → IsTable (of_pairs p first)
  unfolding Ascends
  is_table p low true = record {
    of_principal = in_range_fits w8 0 95 p (omega arith) (omega arith) (omega arith);
    of_pairs =
        All-cons IsPair table_pair (root_pair ∷ []) (in_range_fits w16 1 4095 1 (omega arith) (omega arith) (omega arith), hash_fits (inode.spell (table_inode key)))
        (All-cons IsPair root_pair [] (in_range_fits w16 1 4095 2 (omega arith) (omega arith) (omega arith), hash_fits (inode.spell root_inode)) (All-nil IsPair));
    ascending = (refl, (refl, tt));
    in_loaded = All-cons (λ x. loaded (of_pairs p true) x.i_number ≡ true) table_pair (root_pair ∷ []) refl (All-cons (λ x. loaded (of_pairs p true) x.i_number ≡ true) root_pair [] refl (All-nil (λ x. loaded (of_pairs p true) x.i_number ≡ true)));
    of_unloaded = All-nil IsListed;
    unloaded_ascend = tt;
  }
  is_table p low false = record {
    of_principal = in_range_fits w8 0 95 p (omega arith) (omega arith) (omega arith);
    of_pairs = All-nil IsPair;
    ascending = tt;
    in_loaded = All-nil (λ x. loaded (of_pairs p false) x.i_number ≡ true);
    of_unloaded = All-nil IsListed;
    unloaded_ascend = tt;
  }

  texts_in : (texts : List Bytes) → ((t : Bytes) → In t (first_texts key) → In t texts) → (p : ℕ) → p < 96 → (t : Bytes) → In t (first_table_texts key p) → In t texts
  texts_in texts inside p low t i =
      inside t (in-right t (common_texts key) (flat_map (first_table_texts key) principals) (flat_map-in (first_table_texts key) principals p t (in_range_list 0 96 p (omega arith) (omega arith)) i))

  -- of each principal
  pub first_whole : (texts : List Bytes) → ((t : Bytes) → In t (first_texts key) → In t texts) → (p : ℕ) → p < 96 → IsWhole texts p (first_handle p key)
  first_whole texts inside p low =
      whole_table texts (first_table p key) (is_table p low (p == 0)) refl (texts_in texts inside p low)

  -- what is told of it
  pub first_told : (texts : List Bytes) → NoneCollide texts texts → ((t : Bytes) → In t (first_texts key) → In t texts) → (p : ℕ) → p < 96 → (i : ℕ) → inode_told (told_by_texts texts) p (first_handle p key) i ≡ Some (digest_at (first_table p key) i)
  first_told texts apart inside p low i =
      let t = first_table p key in
      told_table texts apart t p i (is_table p low (p == 0)) refl (in_contains (root_text t) texts (texts_in texts inside p low (root_text t) (root_there t)))
      (λ n text small none has. texts_in texts inside p low text (chunk_there t n text small has)) refl

-- ---- the file of the table of principals

-- the text of the table of the beginning
pub first_text : (k : Key) → table.spell (genesis k) ≡ table_text k
unfolding table_text be spell_rows
first_text k = ap (λ (x : Bytes). codes "SPT1" ++ be w8 1 ++ be w8 0 ++ be w32 0 ++ x) (ap (λ (x : Bytes). x ++ be w16 0) (append-nil k))

module _ (key : Key) (size : length (table_text key) ≡ 68) (texts : List Bytes) (inside : (t : Bytes) → In t (first_texts key) → In t texts) where
  common_in : (t : Bytes) → In t (common_texts key) → In t texts
  common_in t i = inside t (in-left t (common_texts key) (flat_map (first_table_texts key) principals) i)

  text_in : In (table_text key) texts × In (inode.spell (table_inode key)) texts
  unfolding common_texts
  text_in = (common_in (table_text key) (inl refl), common_in (inode.spell (table_inode key)) (inr (inl refl)))

  one_block : blocks_of (table_text key) ≡ table_text key ∷ []
  one_block =
      next_block (table_text key) (table_text key) [] (sym (append-nil (table_text key))) (omega (arith, size)) (omega (arith, size)) ∙ ap (λ (bs : List Bytes). table_text key ∷ bs) (no_block [] refl)

  -- its texts
  pub first_file_in : (t : Bytes) → In t (file_of_principals (genesis key)) → In t texts
  first_file_in t i =
      go (in-append t (blocks_of (table_text key)) (inode.spell (table_inode key) ∷ []) (subst (λ (b : Bytes). In t (blocks_of b ++ inode.spell (inode_of b) ∷ [])) (first_text key) i))
    where
      at_block : In t (table_text key ∷ []) → In t texts
      at_block (inl same) = subst (λ (y : Bytes). In y texts) (sym same) text_in.0
      at_block (inr none) = absurd none

      go : In t (blocks_of (table_text key)) ⊎ In t (inode.spell (table_inode key) ∷ []) → In t texts
      go (inl block) = at_block (subst (λ (bs : List Bytes). In t bs) one_block block)
      go (inr (inl same)) = subst (λ (y : Bytes). In y texts) (sym same) text_in.1
      go (inr (inr none)) = absurd none
