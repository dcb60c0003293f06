-- The laws of a principal's part.
use Rattle.std.proofs.Common.{◌≡◌, ℕ, true, false, List, [], ◌∷◌, Option, Some, None, refl, subst, sym, ap, ◌∙◌, arith}
use Rattle.std.specs.Prelude.{◌==◌, ◌||◌, IsSome, length}
use Rattle.std.proofs.lemmas.Bool.{eq-eqb, ne_eqb}
use Rattle.std.specs.Option.{option_map, option_map_or}
use Rattle.itable.specs.ITable.{ITable, digest_at}
use Rattle.itable.specs.Inode.{Inode}
use Rattle.itable.specs.declared.inode.Kind.TheVariants as kinds
use Rattle.std.specs.Ordering.{nat_cmp}
use Rattle.layout.specs.Ascending.{Ascends}
use Rattle.directory.specs.Directory.{Entry}
use Rattle.update_cert.specs.World.{Content, File, Directory, Principals, is_file, is_removable}
use Rattle.update_cert.specs.Reading.{Reading}
use Rattle.tree_parts.specs.Blocks.{Blocks, inode_at, IsOf, Agrees, directory_over}
use Rattle.tree_parts.specs.Spot.{is_of_file}
use Rattle.tree_parts.specs.Part.{Open, Part, IsPart, number_of, opened_at, content_of, slot_of}
use Rattle.tree_parts.specs.Acts.{listed, stands_here}

-- a part before any change
pub is_part_of : (before table : ITable) (opened : List Open) → table ≡ before → opened ≡ [] → IsPart (record { before = before; table = table; opened = opened })
unfolding Ascends
is_part_of before table opened same none = record {
  principal = sym (ap (λ (t : ITable). t.principal) same);
  unloaded = sym (ap (λ (t : ITable). t.unloaded) same);
  ascending = subst (Ascends nat_cmp number_of None) (sym none) tt;
  mapped = λ i some. let clash : false ≡ true = rw none at some in absurd cc;
}

-- ---- what an i-node tells

file_of : (blocks : Blocks) (n : Inode) (content : Content) → IsOf blocks n content → is_file (Some content) ≡ is_of_file n.kind
file_of blocks n (File bytes) is = sym (ap is_of_file is.0)
file_of blocks n (Directory entries) is = sym (ap is_of_file is.0)
file_of blocks n (Principals table) is = absurd is

removable_entries : (entries : List Entry) (size : ℕ) → (entries ≡ [] → size ≡ 6) → (size ≡ 6 → entries ≡ []) → (length entries == 0) ≡ (size == 6)
removable_entries [] size to from = sym (eq-eqb size 6 (to refl))
removable_entries (e ∷ es) size to from = ne_eqb (length (e ∷ es)) 0 (λ none. absurd (omega (arith, none))) ∙ sym (ne_eqb size 6 (λ is. let clash = from is in absurd cc))

removable_of : (blocks : Blocks) (n : Inode) (content : Content) → IsOf blocks n content → is_removable (Some content) ≡ (is_of_file n.kind || (n.size == 6))
removable_of blocks n (File bytes) is = sym (ap (λ k. is_of_file k || (n.size == 6)) is.0)
removable_of blocks n (Directory entries) is = removable_entries entries n.size is.1.0 is.1.1 ∙ sym (ap (λ k. is_of_file k || (n.size == 6)) is.0)
removable_of blocks n (Principals table) is = absurd is

laid_content : (reads : Reading) (digest : Option (List ℕ)) → option_map (content_of reads) (option_map (slot_of None) digest) ≡ option_map reads.content digest
laid_content reads None = refl
laid_content reads (Some d) = refl

-- what stands where no directory is opened
pub closed : (reads : Reading) (part : Part) (i : ℕ) → opened_at part i ≡ None → stands_here reads part i ≡ option_map reads.content (digest_at part.table i)
closed reads part i none = rw none (laid_content reads (digest_at part.table i))

changed_content : (reads : Reading) (es : List Entry) (digest : Option (List ℕ)) → IsSome digest → option_map (content_of reads) (option_map (slot_of (Some es)) digest) ≡ Some (Directory es)
changed_content reads es None has = absurd cc
changed_content reads es (Some d) has = refl

-- and where one is
pub opened : (reads : Reading) (part : Part) (i : ℕ) (es : List Entry) → opened_at part i ≡ Some es → IsSome (digest_at part.table i) → stands_here reads part i ≡ Some (Directory es)
opened reads part i es there has = rw there (changed_content reads es (digest_at part.table i) has)

module _ (blocks : Blocks) (reads : Reading) (agrees : Agrees blocks reads) where
  file_read : (d : Option (List ℕ)) (found : Option Inode) → option_map (λ n. Some n) found ≡ option_map (inode_at blocks) d → option_map_or (λ n. is_of_file n.kind) found false ≡ is_file (option_map reads.content d)
  file_read None None is = refl
  file_read None (Some n) is = absurd cc
  file_read (Some d) None is = absurd cc
  file_read (Some d) (Some n) is = let at : inode_at blocks d ≡ Some n = cc in sym (file_of blocks n (reads.content d) (agrees.contents d n at))

  removable_read : (d : Option (List ℕ)) (found : Option Inode) → option_map (λ n. Some n) found ≡ option_map (inode_at blocks) d → option_map_or (λ n. is_of_file n.kind || (n.size == 6)) found false ≡ is_removable (option_map reads.content d)
  removable_read None None is = refl
  removable_read None (Some n) is = absurd cc
  removable_read (Some d) None is = absurd cc
  removable_read (Some d) (Some n) is = let at : inode_at blocks d ≡ Some n = cc in sym (removable_of blocks n (reads.content d) (agrees.contents d n at))

  -- a file stands where its i-node says so
  pub file_told : (part : Part) (i : ℕ) (found : Option Inode) → opened_at part i ≡ None → option_map (λ n. Some n) found ≡ option_map (inode_at blocks) (digest_at part.table i) → option_map_or (λ n. is_of_file n.kind) found false ≡ is_file (stands_here reads part i)
  file_told part i found none is = file_read (digest_at part.table i) found is ∙ sym (ap is_file (closed reads part i none))

  -- a file, or a directory of 6 bytes
  pub removable_told : (part : Part) (i : ℕ) (found : Option Inode) → opened_at part i ≡ None → option_map (λ n. Some n) found ≡ option_map (inode_at blocks) (digest_at part.table i) → option_map_or (λ n. is_of_file n.kind || (n.size == 6)) found false ≡ is_removable (stands_here reads part i)
  removable_told part i found none is = removable_read (digest_at part.table i) found is ∙ sym (ap is_removable (closed reads part i none))

  a_list : (n : Inode) (content : Content) (entries : List Entry) → IsOf blocks n content → n.kind ≡ kinds.Directory → directory_over blocks n ≡ Some entries → Some entries ≡ listed (Some content)
  a_list n (File bytes) entries is of_directory found = let clash = sym is.0 ∙ of_directory in absurd cc
  a_list n (Directory others) entries is of_directory found = ap (λ (es : List Entry). Some es) (is.2 entries found)
  a_list n (Principals table) entries is of_directory found = absurd is

  no_list : (n : Inode) (content : Content) → IsOf blocks n content → n.kind ≡ kinds.File → None ≡ listed (Some content)
  no_list n (File bytes) is of_file = refl
  no_list n (Directory entries) is of_file = let clash = sym of_file ∙ is.0 in absurd cc
  no_list n (Principals table) is of_file = refl

  -- no directory stands where the i-node is a file's
  pub file_unlisted : (d : List ℕ) (n : Inode) (digest : Option (List ℕ)) → digest ≡ Some d → inode_at blocks d ≡ Some n → n.kind ≡ kinds.File → None ≡ listed (option_map reads.content digest)
  file_unlisted d n digest is at of_file = rw is (no_list n (reads.content d) (agrees.contents d n at) of_file)

  -- a directory has the entries that its blocks spell
  pub directory_listed : (d : List ℕ) (n : Inode) (digest : Option (List ℕ)) (entries : List Entry) → digest ≡ Some d → inode_at blocks d ≡ Some n → n.kind ≡ kinds.Directory → directory_over blocks n ≡ Some entries → Some entries ≡ listed (option_map reads.content digest)
  directory_listed d n digest entries is at of_directory found = rw is (a_list n (reads.content d) entries (agrees.contents d n at) of_directory found)
