-- What is laid out among texts: files and directories by their blocks, the table of principals, and what a certificate makes
-- or puts.
use Rattle.std.proofs.Common.{◌≡◌, ℕ, zero, suc, ◌+◌, ◌*◌, ◌-◌, ◌≤◌, true, false, ◌==◌, ◌&&◌, List, [], ◌∷◌, ◌++◌, length, map, take, drop, min, Some, Result, Ok, Err, refl, sym, ap, ◌∙◌, subst, inl, inr, arith}
use Rattle.std.specs.Prelude.{◌||◌, is_some, slice_get}
use Rattle.std.specs.Int.{w16, w32}
use Rattle.std.specs.Option.{option_map_or}
use Rattle.std.specs.Result.{result_ok}
use Rattle.std.specs.Str.{bytes_eq}
use Rattle.std.proofs.lemmas.Bool.{and_parts, eq-eqb, eqb-true, or_cases}
use Rattle.std.proofs.lemmas.List.{append-nil, length-drop, length-map, length-take}
use Rattle.std.proofs.lemmas.Slice.Eq.{bytes_eq-Decides}
use Rattle.layout.specs.declared.error.ReadError.{ReadError}
use Rattle.layout.specs.Format.{FitRows, be, spell_rows, whole}
use Rattle.layout.specs.Hash.{hash}
use Rattle.layout.specs.Laws.{in_range_fits, whole_again}
use Rattle.layout.specs.Types.{Bytes, Digest, Key}
use Rattle.itable.specs.declared.inode.Kind.{Kind}
use Rattle.itable.specs.declared.inode.Kind.TheVariants as kinds
use Rattle.itable.specs.File.{blocks_of, inode_of, inode_over, pieces}
use Rattle.itable.specs.Inode.{Inode, block_count, inode}
use Rattle.itable.specs.InodeLaws.{lawful_inode}
use Rattle.itable.proofs.Blocks.{next_block, no_block}
use Rattle.itable.proofs.FileLaws.{file_fits, inode_fits, joined as blocks_joined}
use Rattle.directory.specs.Directory.{Entry, directory}
use Rattle.directory.specs.DirectoryLaws.{lawful_directory}
use Rattle.principals.specs.Table.{Table}
use Rattle.principals.specs.TableText.{table}
use Rattle.principals.proofs.SizeLaws.{text_begins}
use Rattle.principals.specs.TableTextLaws.{lawful_table}
use Rattle.update_cert.specs.Change.{Action, Make, Put, Remove, Link, Unlink, AddUser, AddMember, DropMember, SetKey, Change}
use Rattle.update_cert.specs.Cert.{Cert}
use Rattle.tree_parts.specs.Blocks.{of_size}
use Rattle.tree_parts.specs.Slots.{directory_digest, directory_inode, directory_texts}
use Rattle.tree_parts.specs.Spot.{is_of_file, size_of_block}
use Rattle.client_tree.specs.Genesis.{common_texts, first_table_texts, first_texts, inode_digest, principals, root_inode}
use Rattle.client_tree.specs.Tree.{file_of_principals, principals_digest}
use Rattle.client_verify.specs.Laid.{are_blocks_laid, are_laid, has_text, is_file_laid, is_laid, is_whole_file}
use Rattle.std.specs.List.{flat_map}
use Rattle.agreement.proofs.Members.{In, in-left, in-right}
use Rattle.agreement.proofs.Tests.{all_in, any_in}
use Rattle.fork_consistency.proofs.Begun.{AmongThem, IsBegun}
use Rattle.fork_consistency.proofs.Contents.{count_told}
use Rattle.fork_consistency.proofs.Served.{IsContent, IsLaidOut, IsTableFile}
use Rattle.fork_consistency.proofs.Slots.{IsMadeBy, Lays}

-- ---- blocks

pieces_count : (count : ℕ) (bytes : Bytes) → length (pieces 4096 count bytes) ≡ count
unfolding pieces
pieces_count zero bytes = refl
pieces_count (suc count) bytes = ap suc (pieces_count count (drop 4096 bytes))

further : (long rest k a : ℕ) → rest ≡ long - 4096 → a ≡ min 4096 (rest - 4096 * k) → a ≡ min 4096 (long - 4096 * suc k)
further long rest k a less is = omega (arith, less, is)

-- each has its size
piece_size : (count : ℕ) (bytes : Bytes) (k : ℕ) (t : Bytes) → slice_get (pieces 4096 count bytes) k ≡ Some t → length t ≡ size_of_block (length bytes) k
unfolding pieces
piece_size zero bytes k t at = absurd (cc at)
piece_size (suc count) bytes zero t at =
    let one : take 4096 bytes ≡ t = cc at in
    let long = length-take 4096 bytes in
    let same : length (take 4096 bytes) ≡ length t = ap length one in
    omega (arith, long, same)
piece_size (suc count) bytes (suc k) t at =
    further (length bytes) (length (drop 4096 bytes)) k (length t) (length-drop 4096 bytes) (piece_size count (drop 4096 bytes) k t at)

module _ (texts : List Bytes) where
  -- bytes that are laid in blocks
  pub laid_over : (kind : Kind) (bytes : Bytes) → inode.Fits (inode_over kind bytes) → ((t : Bytes) → In t (blocks_of bytes) → In t texts) → In (inode.spell (inode_over kind bytes)) texts → IsLaidOut texts (hash (inode.spell (inode_over kind bytes)))
  laid_over kind bytes fits inside there = record {
    text = inode.spell (inode_over kind bytes);
    there = there;
    named = refl;
    node = inode_over kind bytes;
    reads = whole_again inode lawful_inode (inode_over kind bytes) fits;
    blocks = blocks_of bytes;
    inside = inside;
    digests = refl;
    count = pieces_count (block_count (length bytes)) bytes;
    sizes = λ k t at. piece_size (block_count (length bytes)) bytes k t at;
  }

  -- a directory
  pub directory_content : (entries : List Entry) → directory.Fits entries → inode.Fits (directory_inode entries) → ((t : Bytes) → In t (directory_texts entries) → In t texts) → IsContent texts (directory_digest entries)
  unfolding laid_over
  directory_content entries fits node_fits inside =
      let text = directory.spell entries in
      let last = inode.spell (directory_inode entries) ∷ [] in
      record {
        laid = laid_over kinds.Directory text node_fits (λ t i. inside t (in-left t (blocks_of text) last i)) (inside (inode.spell (directory_inode entries)) (in-right (inode.spell (directory_inode entries)) (blocks_of text) last (inl refl)));
        spells = λ same.
            ap (λ (x : Bytes). is_some (of_size directory (length text) x)) (blocks_joined text)
            ∙ (rw (eq-eqb (length text) (length text) refl) (ap (λ r. is_some (result_ok r)) (whole_again directory lawful_directory entries fits)));
      }

  -- the table of principals
  pub table_content : (t : Table) → table.Fits t → length (table.spell t) ≤ 4194304 → ((y : Bytes) → In y (file_of_principals t) → In y texts) → IsTableFile texts (principals_digest t)
  unfolding laid_over
  table_content t fits few inside =
      let text = table.spell t in
      let last = inode.spell (inode_of text) ∷ [] in
      record {
        laid = laid_over kinds.File text (file_fits text few) (λ y i. inside y (in-left y (blocks_of text) last i)) (inside (inode.spell (inode_of text)) (in-right (inode.spell (inode_of text)) (blocks_of text) last (inl refl)));
        of_file = refl;
        positive = text_begins t;
        spells =
            ap (λ (x : Bytes). is_some (of_size table (length text) x)) (blocks_joined text)
            ∙ (rw (eq-eqb (length text) (length text) refl) (ap (λ r. is_some (result_ok r)) (whole_again table lawful_table t fits)));
      }

  -- ---- what was laid out for an operation

  module _ (laid : List Bytes) (into : (t : Bytes) → In t laid → In t texts) where
    record AreLaidAt (size k : ℕ) (ds : List Digest) : Type 0 where
      pub blocks : List Bytes
      pub inside : (t : Bytes) → In t blocks → In t texts
      pub digests : ds ≡ map hash blocks
      pub sizes : (j : ℕ) (t : Bytes) → slice_get blocks j ≡ Some t → length t ≡ size_of_block size (k + j)

    blocks_laid : (size k : ℕ) (ds : List Digest) → are_blocks_laid laid size k ds ≡ true → AreLaidAt size k ds
    unfolding are_blocks_laid
    blocks_laid size k [] are = record { blocks = []; inside = λ t i. absurd i; digests = refl; sizes = λ j t at. absurd (cc at) }
    blocks_laid size k (d ∷ ds) are =
        let both = and_parts (has_text laid d (size_of_block size k)) (are_blocks_laid laid size (k + 1) ds) are in
        let (t, i, tests) = any_in (λ text. bytes_eq (hash text) d && (length text == size_of_block size k)) laid both.0 in
        let of = and_parts (bytes_eq (hash t) d) (length t == size_of_block size k) tests in
        one t i ((bytes_eq-Decides (hash t) d).0 of.0) (eqb-true (length t) (size_of_block size k) of.1) (blocks_laid size (k + 1) ds both.1)
      where
        one : (t : Bytes) → In t laid → hash t ≡ d → length t ≡ size_of_block size k → AreLaidAt size (k + 1) ds → AreLaidAt size k (d ∷ ds)
        one t i named long rest = record {
          blocks = t ∷ rest.blocks;
          inside = λ y j. elim j [ inl e ↦ subst (λ (z : Bytes). In z texts) (sym e) (into t i) | inr m ↦ rest.inside y m ];
          digests = ap (λ (x : Digest). x ∷ ds) (sym named) ∙ ap (λ (xs : List Digest). hash t ∷ xs) rest.digests;
          sizes = size_at;
        }
          where
            size_at : (j : ℕ) (y : Bytes) → slice_get (t ∷ rest.blocks) j ≡ Some y → length y ≡ size_of_block size (k + j)
            size_at zero y at = let same : t ≡ y = cc at in let here : k ≡ k + 0 = omega arith in ap length (sym same) ∙ long ∙ ap (size_of_block size) here
            size_at (suc j) y at = let next : k + 1 + j ≡ k + suc j = omega arith in rest.sizes j y at ∙ ap (size_of_block size) next

    -- a file
    pub file_content : (digest : Digest) → is_file_laid laid digest ≡ true → IsContent texts digest
    file_content digest is =
        let (text, i, tests) = any_in (λ text. bytes_eq (hash text) digest && is_whole_file laid text) laid is in
        let of = and_parts (bytes_eq (hash text) digest) (is_whole_file laid text) tests in
        go text i ((bytes_eq-Decides (hash text) digest).0 of.0) (whole inode text) refl of.1
      where
        no_directory : (k : Kind) → is_of_file k ≡ true → k ≡ kinds.Directory → ⊥
        no_directory k e same = let clash : true ≡ false = sym e ∙ ap is_of_file same in cc clash

        zero_more : (k : ℕ) → 0 + k ≡ k
        zero_more k = omega arith

        go : (text : Bytes) → In text laid → hash text ≡ digest → (r : Result Inode ReadError) → whole inode text ≡ r → option_map_or (λ n. is_of_file n.kind && are_blocks_laid laid n.size 0 n.blocks) (result_ok r) false ≡ true → IsContent texts digest
        go text i named (Err e) read none = absurd (cc none)
        go text i named (Ok n) read both =
            let parts = and_parts (is_of_file n.kind) (are_blocks_laid laid n.size 0 n.blocks) both in
            let j = blocks_laid n.size 0 n.blocks parts.1 in
            record {
              laid = record {
                text = text;
                there = into text i;
                named = named;
                node = n;
                reads = read;
                blocks = j.blocks;
                inside = j.inside;
                digests = j.digests;
                count = sym (length-map j.blocks hash) ∙ ap length (sym j.digests) ∙ count_told text n read;
                sizes = λ k t at. j.sizes k t at ∙ ap (size_of_block n.size) (zero_more k);
              };
              spells = λ same. absurd (no_directory n.kind parts.0 same);
            }

  -- ---- the empty directory

  module _ (key : Key) (first : (t : Bytes) → In t (first_texts key) → In t texts) where
    empty_size : length (directory.spell []) ≡ 6
    unfolding be spell_rows
    empty_size = refl

    empty_fits : directory.Fits []
    unfolding FitRows
    empty_fits = (in_range_fits w16 0 1024 0 (omega arith) (omega arith) (omega arith), (refl, tt))

    root_fits : inode.Fits root_inode
    root_fits =
        let size = empty_size in
        inode_fits kinds.Directory (directory.spell []) (in_range_fits w32 6 265222 (length (directory.spell [])) (omega (arith, size)) (omega (arith, size)) (omega (arith, size))) (omega (arith, size))

    common : (t : Bytes) → In t (common_texts key) → In t texts
    common t i = first t (in-left t (common_texts key) (flat_map (first_table_texts key) principals) i)

    one_block : blocks_of (directory.spell []) ≡ directory.spell [] ∷ []
    one_block =
        let size = empty_size in
        next_block (directory.spell []) (directory.spell []) [] (sym (append-nil (directory.spell []))) (omega (arith, size)) (omega (arith, size)) ∙ ap (λ (bs : List Bytes). directory.spell [] ∷ bs) (no_block [] refl)

    two_in : In (directory.spell []) texts × In (inode.spell root_inode) texts
    unfolding common_texts
    two_in = (common (directory.spell []) (inr (inr (inl refl))), common (inode.spell root_inode) (inr (inr (inr (inl refl)))))

    empty_in : (t : Bytes) → In t (directory_texts []) → In t texts
    empty_in t i = go (subst (λ (bs : List Bytes). In t (bs ++ inode.spell (directory_inode []) ∷ [])) one_block i)
      where
        go : In t (directory.spell [] ∷ inode.spell (directory_inode []) ∷ []) → In t texts
        go (inl e) = subst (λ (y : Bytes). In y texts) (sym e) two_in.0
        go (inr (inl e)) = subst (λ (y : Bytes). In y texts) (sym e) two_in.1
        go (inr (inr none)) = absurd none

    pub root_content : IsContent texts (inode_digest root_inode)
    root_content = directory_content [] empty_fits root_fits empty_in

    -- ---- what a certificate makes or puts

    module _ (laid : List Bytes) (into : (t : Bytes) → In t laid → In t texts) where
      made_content : (digest : Digest) → (is_file_laid laid digest || bytes_eq digest (inode_digest root_inode)) ≡ true → IsContent texts digest
      made_content digest is =
          elim (or_cases (is_file_laid laid digest) (bytes_eq digest (inode_digest root_inode)) is) [
            | inl file ↦ file_content laid into digest file
            | inr root ↦ subst (IsContent texts) (sym ((bytes_eq-Decides digest (inode_digest root_inode)).0 root)) root_content
          ]

      action_content : (a : Action Digest) (d : Digest) → is_laid laid a ≡ true → Lays a d → IsContent texts d
      action_content (Make inode) d is names = subst (IsContent texts) names (made_content inode is)
      action_content (Put inode) d is names = subst (IsContent texts) names (file_content laid into inode is)
      action_content Remove d is names = absurd names
      action_content (Link entry) d is names = absurd names
      action_content (Unlink name) d is names = absurd names
      action_content (AddUser u k) d is names = absurd names
      action_content (AddMember g u) d is names = absurd names
      action_content (DropMember g u) d is names = absurd names
      action_content (SetKey u key) d is names = absurd names

      changes_content : (cs : List (Change Digest)) → are_laid laid cs ≡ true → (d : Digest) → IsMadeBy cs d → IsContent texts d
      unfolding are_laid
      changes_content cs are d (c, i, names) = action_content c.action d (all_in (λ (x : Change Digest). is_laid laid x.action) cs are c i) names

    pub begun_content : (c : Cert) → IsBegun (AmongThem texts) c → (d : Digest) → IsMadeBy c.changes d → IsContent texts d
    begun_content c begun d made = changes_content begun.laid begun.inside c.changes begun.are d made
