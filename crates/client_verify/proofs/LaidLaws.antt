-- The blocks of a file that was laid out, one by one.
use Rattle.std.proofs.Common.{◌≡◌, ℕ, zero, suc, ◌+◌, ◌-◌, ◌*◌, ◌<◌, ◌≤◌, Bool, true, false, ◌&&◌, List, ◌∷◌, length, map, take, drop, Result, sym, ap, refl, ◌∙◌, add-one, arith, drop-cons}
use Rattle.std.specs.Prelude.{◌==◌, Contains, min, slice_index_or}
use Rattle.std.specs.List.{list_any}
use Rattle.std.specs.Option.{option_map_or}
use Rattle.std.specs.Result.{result_ok}
use Rattle.std.specs.Str.{bytes_eq}
use Rattle.std.proofs.lemmas.Bool.{eq-eqb}
use Rattle.std.proofs.lemmas.List.{drop_all, length-drop, length-take}
use Rattle.std.proofs.lemmas.List.Folds.{list_any-from_Any}
use Rattle.std.proofs.lemmas.Slice.Eq.{bytes_eq-Decides}
use Rattle.layout.specs.Hash.{hash}
use Rattle.layout.specs.Types.{Bytes, Digest}
use Rattle.itable.specs.Inode.{Inode, block_count, inode}
use Rattle.itable.specs.File.{inode_of, pieces}
use Rattle.itable.proofs.FileLaws.{reads_again}
use Rattle.tree_parts.specs.Spot.{is_of_file, size_of_block}
use Rattle.client_verify.specs.Laid.{IsLaidAnywhere, are_blocks_laid, has_text, is_whole_file}

one_more : (laid : List Bytes) (size k : ℕ) (d : Digest) (ds : List Digest) → are_blocks_laid laid size k (d ∷ ds) ≡ (has_text laid d (size_of_block size k) && are_blocks_laid laid size (k + 1) ds)
unfolding are_blocks_laid
one_more laid size k d ds = refl

pub next_laid : (laid : List Bytes) (size k : ℕ) (d : Digest) (ds : List Digest) (t : Bool) → k < length ds → d ≡ slice_index_or ds k d → t ≡ has_text laid d (size_of_block size k) → are_blocks_laid laid size k (drop k ds) ≡ (t && are_blocks_laid laid size (k + 1) (drop (k + 1) ds))
next_laid laid size k d ds t inside at is =
    let here : drop k ds ≡ d ∷ drop (k + 1) ds = rw add-one (drop-cons ds k d inside ∙ ap (λ (x : Digest). x ∷ drop (suc k) ds) (sym at)) in
    ap (are_blocks_laid laid size k) here ∙ one_more laid size k d (drop (k + 1) ds) ∙ ap (λ (b : Bool). b && are_blocks_laid laid size (k + 1) (drop (k + 1) ds)) (sym is)

pub none_left : (laid : List Bytes) (size k : ℕ) (ds : List Digest) → length ds ≤ k → are_blocks_laid laid size k (drop k ds) ≡ true
unfolding are_blocks_laid
none_left laid size k ds past = ap (are_blocks_laid laid size k) (drop_all k ds past)

-- ---- a file that was laid out in blocks

-- a test finds a text of the list
found : (p : Bytes → Bool) (laid : List Bytes) (text : Bytes) → Contains laid text → p text ≡ true → list_any p laid ≡ true
found p laid text (k, inside, at) holds = list_any-from_Any p laid (k, text, inside, at, holds)

same_bytes : (a : Bytes) → bytes_eq a a ≡ true
same_bytes a = (bytes_eq-Decides a a).1 refl

has_block : (laid : List Bytes) (block : Bytes) (size : ℕ) → Contains laid block → length block ≡ size → has_text laid (hash block) size ≡ true
has_block laid block size there is =
    found (λ text. bytes_eq (hash text) (hash block) && (length text == size)) laid block there (rw (same_bytes (hash block), eq-eqb (length block) size is) refl)

pieces_laid : (laid : List Bytes) (size k count : ℕ) (rest : Bytes) → length rest ≡ size - 4096 * k → ((block : Bytes) → Contains (pieces 4096 count rest) block → Contains laid block) → are_blocks_laid laid size k (map hash (pieces 4096 count rest)) ≡ true
unfolding pieces are_blocks_laid
pieces_laid laid size k zero rest is among = refl
pieces_laid laid size k (suc count) rest is among =
    let first : has_text laid (hash (take 4096 rest)) (size_of_block size k) ≡ true = has_block laid (take 4096 rest) (size_of_block size k) (among (take 4096 rest) (0, omega arith, refl)) (length-take 4096 rest ∙ ap (λ (n : ℕ). min 4096 n) is) in
    let others = pieces_laid laid size (k + 1) count (drop 4096 rest) (omega (arith, length-drop 4096 rest, is)) (λ block (j, low, at). among block (suc j, omega arith, at)) in
    rw (first, others) refl

pub laid_anywhere : (file : Bytes) → length file ≤ 4194304 → IsLaidAnywhere file
laid_anywhere file few laid of_inode of_blocks =
    let text = inode.spell (inode_of file) in
    let blocks = pieces_laid laid (length file) 0 (block_count (length file)) file (omega arith) of_blocks in
    let is : is_whole_file laid text ≡ true = ap (λ (r : Result Inode _). option_map_or (λ n. is_of_file n.kind && are_blocks_laid laid n.size 0 n.blocks) (result_ok r) false) (reads_again file few) ∙ blocks in
    found (λ t. bytes_eq (hash t) (hash text) && is_whole_file laid t) laid text of_inode (rw (same_bytes (hash text), is) refl)
