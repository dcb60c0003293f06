-- What i-nodes are of, where their blocks are held; and that a directory is read back from its texts.
use Rattle.std.proofs.Common.{◌≡◌, ℕ, List, [], ◌∷◌, ◌++◌, length, map, Some, refl, sym, ap, ◌∙◌}
use Rattle.std.specs.List.{All, concat}
use Rattle.std.specs.Option.{option_and_then, option_map}
use Rattle.std.specs.Result.{result_ok}
use Rattle.std.proofs.lemmas.Bool.{eq-eqb}
use Rattle.std.proofs.lemmas.List.Elements.{All-cons, All-head, All-nil, All-tail}
use Rattle.layout.specs.Format.{whole}
use Rattle.layout.specs.Hash.{hash}
use Rattle.layout.specs.Laws.{whole_again}
use Rattle.itable.specs.Inode.{Inode, inode}
use Rattle.itable.specs.InodeLaws.{lawful_inode}
use Rattle.itable.specs.File.{blocks_of}
use Rattle.itable.specs.declared.inode.Kind.TheVariants as kinds
use Rattle.directory.specs.Directory.{Entry, directory}
use Rattle.directory.specs.DirectoryLaws.{lawful_directory}
use Rattle.update_cert.specs.World.{Content, File, Directory, Principals}
use Rattle.update_cert.specs.Reading.{Reading}
use Rattle.tree_parts.specs.Blocks.{Blocks, Agrees, IsHeld, IsOf, inode_at, joined, of_size, directory_over, file_over}
use Rattle.tree_parts.specs.Slots.{IsReadBack, directory_inode}

all_front : {X : Type 0} (P : X → Type 0) (xs ys : List X) → All P (xs ++ ys) → All P xs
all_front {X} P [] ys all = All-nil P
all_front {X} P (x ∷ xs) ys all = All-cons P x xs (All-head P x (xs ++ ys) all) (all_front P xs ys (All-tail P x (xs ++ ys) all))

all_back : {X : Type 0} (P : X → Type 0) (xs ys : List X) → All P (xs ++ ys) → All P ys
all_back {X} P [] ys all = all
all_back {X} P (x ∷ xs) ys all = all_back P xs ys (All-tail P x (xs ++ ys) all)

-- texts that are held, one after another
joined_held : (blocks : Blocks) (texts : List (List ℕ)) → All (IsHeld blocks) texts → joined blocks (map hash texts) ≡ Some (concat texts)
unfolding joined
joined_held blocks [] all = refl
joined_held blocks (t ∷ ts) all = rw (All-head (IsHeld blocks) t ts all) (ap (option_map (λ rest. t ++ rest)) (joined_held blocks ts (All-tail (IsHeld blocks) t ts all)))

-- an i-node whose text is held
pub inode_held : (blocks : Blocks) (n : Inode) → inode.Fits n → IsHeld blocks (inode.spell n) → inode_at blocks (hash (inode.spell n)) ≡ Some n
inode_held blocks n fits held = ap (option_and_then (λ text. result_ok (whole inode text))) held ∙ ap result_ok (whole_again inode lawful_inode n fits)

spelled_of_size : (entries : List Entry) → directory.Fits entries → of_size directory (length (directory.spell entries)) (directory.spell entries) ≡ Some entries
spelled_of_size entries fits = rw (eq-eqb (length (directory.spell entries)) (length (directory.spell entries)) refl) (ap result_ok (whole_again directory lawful_directory entries fits))

is_file : (blocks : Blocks) (n : Inode) (bytes : List ℕ) (content : Content) → n.kind ≡ kinds.File → file_over blocks n ≡ Some bytes → IsOf blocks n content → content ≡ File bytes
is_file blocks n bytes (File others) of_file over is = ap (λ (b : List ℕ). File b) (sym (is.2 bytes over))
is_file blocks n bytes (Directory entries) of_file over is = let clash = sym of_file ∙ is.0 in absurd cc
is_file blocks n bytes (Principals table) of_file over is = absurd is

is_directory : (blocks : Blocks) (n : Inode) (entries : List Entry) (content : Content) → n.kind ≡ kinds.Directory → directory_over blocks n ≡ Some entries → IsOf blocks n content → content ≡ Directory entries
is_directory blocks n entries (File bytes) of_directory over is = let clash = sym of_directory ∙ is.0 in absurd cc
is_directory blocks n entries (Directory others) of_directory over is = ap (λ (es : List Entry). Directory es) (sym (is.2 entries over))
is_directory blocks n entries (Principals table) of_directory over is = absurd is

-- the digest of an i-node that is held stands for the file or the directory that its blocks make
pub file_is : (blocks : Blocks) (reads : Reading) (digest bytes : List ℕ) (n : Inode) → Agrees blocks reads → inode_at blocks digest ≡ Some n → n.kind ≡ kinds.File → file_over blocks n ≡ Some bytes → reads.content digest ≡ File bytes
file_is blocks reads digest bytes n agrees held of_file over = is_file blocks n bytes (reads.content digest) of_file over (agrees.contents digest n held)

pub directory_is : (blocks : Blocks) (reads : Reading) (digest : List ℕ) (n : Inode) (entries : List Entry) → Agrees blocks reads → inode_at blocks digest ≡ Some n → n.kind ≡ kinds.Directory → directory_over blocks n ≡ Some entries → reads.content digest ≡ Directory entries
directory_is blocks reads digest n entries agrees held of_directory over = is_directory blocks n entries (reads.content digest) of_directory over (agrees.contents digest n held)

pub read_back : (entries : List Entry) → directory.Fits entries → inode.Fits (directory_inode entries) → concat (blocks_of (directory.spell entries)) ≡ directory.spell entries → IsReadBack entries
read_back entries fits inode_fits all =
    record {
      fits = fits;
      inode_fits = inode_fits;
      reads = λ blocks reads agrees held.
          let text = directory.spell entries in
          let n = directory_inode entries in
          let digest = hash (inode.spell n) in
          let blocks_held : All (IsHeld blocks) (blocks_of text) = all_front (IsHeld blocks) (blocks_of text) (inode.spell n ∷ []) held in
          let inode_is_held : IsHeld blocks (inode.spell n) = All-head (IsHeld blocks) (inode.spell n) [] (all_back (IsHeld blocks) (blocks_of text) (inode.spell n ∷ []) held) in
          let over : directory_over blocks n ≡ Some entries = ap (option_and_then (of_size directory n.size)) (joined_held blocks (blocks_of text) blocks_held ∙ ap (λ (t : List ℕ). Some t) all) ∙ spelled_of_size entries fits in
          directory_is blocks reads digest n entries agrees (inode_held blocks n inode_fits inode_is_held) refl over;
    }
