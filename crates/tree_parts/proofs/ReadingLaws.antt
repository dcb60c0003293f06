-- What reading i-nodes and directories finds, and what it lacks.
use Rattle.std.proofs.Common.{◌≡◌, ℕ, suc, ◌+◌, ◌*◌, ◌<◌, ◌≤◌, min, Bool, true, false, List, [], ◌∷◌, ◌++◌, length, take, Option, Some, None, Result, Ok, Err, Vec, refl, sym, ap, subst, ◌∙◌, arith, append_assoc, add-one}
use Rattle.std.specs.Prelude.{not, ◌&&◌, ◌||◌, ◌==◌, is_some, IsSome, IsSomeAnd, IfOk, nat_lt, slice_get, slice_index_or, if◌then◌else◌}
use Rattle.std.proofs.lemmas.Bool.Decides.{nat_tests}
use Rattle.std.proofs.Math.Seq.{take-suc}
use Rattle.std.proofs.lemmas.Bool.{eq-eqb}
use Rattle.std.proofs.lemmas.List.{append-nil, take_all}
use Rattle.std.proofs.lemmas.Option.{slice_get_read}
use Rattle.std.specs.Int.{w16, w32}
use Rattle.std.specs.Option.{option_map, option_map_or, option_and_then}
use Rattle.std.specs.Result.{result_ok}
use Rattle.layout.specs.Format.{Format, whole}
use Rattle.layout.specs.Laws.{in_range}
use Rattle.itable.specs.Inode.{Inode, inode, block_count, size}
use Rattle.itable.specs.declared.inode.Kind.{Kind}
use Rattle.itable.specs.declared.inode.Kind.TheVariants as kinds
use Rattle.directory.specs.Directory.{directory}
use Rattle.principals.specs.TableText.{table}
use Rattle.principals.specs.Table.{Table}
use Rattle.tree_parts.specs.Blocks.{Blocks, inode_at, joined, file_over, if_of_size, of_size}
use Rattle.tree_parts.specs.Asked.{IsBlock, IsBlockOf, IsBlockAfterHeld, IsTableBlock, Lacks}
use Rattle.tree_parts.specs.Acts.{IsAfterHeld, as_table, table_spot}
use Rattle.tree_parts.specs.Spot.{takes, takes_inode, takes_block, takes_file_block, takes_table_block, is_block_of, size_of_block, spot_of, completes, is_of_file, lacks}
use Rattle.tree_parts.specs.declared.error.ApplyError.{ApplyError}
use Rattle.tree_parts.specs.declared.error.ApplyError.TheVariants as error
use Rattle.tree_parts.specs.declared.spot.Spot.{Spot}
use Rattle.tree_parts.specs.declared.spot.Spot.TheVariants as spot

-- ---- i-nodes

no_inode : (p i : ℕ) (held : Option (List ℕ)) → option_map_or (takes_inode p i) (option_and_then (λ text. result_ok (whole inode text)) held) false ≡ false
    → not (option_map_or (λ text. option_map_or (takes_inode p i) (result_ok (whole inode text)) false) held false) ≡ true
no_inode p i None none = refl
no_inode p i (Some text) none = ap not none

pub lacks_inode : (blocks : Blocks) (p i : ℕ) (digest : List ℕ) → option_map_or (takes_inode p i) (inode_at blocks digest) false ≡ false → lacks blocks digest (spot.Inode p i) ≡ true
unfolding takes
lacks_inode blocks p i digest none = no_inode p i (blocks digest) none

one_inode : (p i : ℕ) (n : Inode) (held : Option (List ℕ)) → option_and_then (λ text. result_ok (whole inode text)) held ≡ Some n → takes_inode p i n ≡ true
    → not (option_map_or (λ text. option_map_or (takes_inode p i) (result_ok (whole inode text)) false) held false) ≡ false
one_inode p i n None at taken = absurd cc
one_inode p i n (Some text) at taken = ap (λ (found : Option Inode). not (option_map_or (takes_inode p i) found false)) at ∙ ap not taken

-- an i-node that its place takes is there
pub inode_taken : (blocks : Blocks) (p i : ℕ) (digest : List ℕ) (n : Inode) → inode_at blocks digest ≡ Some n → takes_inode p i n ≡ true → lacks blocks digest (spot.Inode p i) ≡ false
unfolding takes
inode_taken blocks p i digest n at taken = one_inode p i n (blocks digest) at taken

held_so : (b : Bool) → not b ≡ false → b ≡ true
held_so true is = refl
held_so false is = absurd cc

one_taken : (p i : ℕ) (n : Inode) (held : Option (List ℕ)) → option_and_then (λ text. result_ok (whole inode text)) held ≡ Some n
    → not (option_map_or (λ text. option_map_or (takes_inode p i) (result_ok (whole inode text)) false) held false) ≡ false → takes_inode p i n ≡ true
one_taken p i n None at there = absurd cc
one_taken p i n (Some text) at there = sym (ap (λ (found : Option Inode). option_map_or (takes_inode p i) found false) at) ∙ held_so (option_map_or (takes_inode p i) (result_ok (whole inode text)) false) there

is_inode_taken : (blocks : Blocks) (p i : ℕ) (digest : List ℕ) (n : Inode) → inode_at blocks digest ≡ Some n → lacks blocks digest (spot.Inode p i) ≡ false → takes_inode p i n ≡ true
unfolding takes
is_inode_taken blocks p i digest n at there = one_taken p i n (blocks digest) at there

a_file : (k : Kind) (some : Bool) → is_of_file k && some ≡ true → (k ≡ kinds.File) × (some ≡ true)
a_file kinds.File some is = (refl, is)
a_file kinds.Directory some is = absurd cc

-- the table of principals is a file with bytes
pub table_inode : (blocks : Blocks) (digest : List ℕ) (n : Inode) → inode_at blocks digest ≡ Some n → lacks blocks digest (spot.Inode 0 1) ≡ false → (n.kind ≡ kinds.File) × (0 < n.size)
table_inode blocks digest n at there =
    let taken = a_file n.kind (nat_lt 0 n.size) (is_inode_taken blocks 0 1 digest n at there) in
    let more : 0 < n.size = let some = taken.1 in grind (arith, nat_tests) in
    (taken.0, more)

-- ---- the sizes of blocks

pub count_is : (n : Inode) → inode.Fits n → length n.blocks ≡ block_count n.size
count_is n fits = let range = in_range w16 (block_count n.size) (block_count n.size) (length n.blocks) fits.1.1.0 in omega (arith, range.0, range.1)

few_bytes : (k : Kind) (bytes : ℕ) → (size k).Fits bytes → bytes ≤ 4194304
few_bytes kinds.File bytes fits = (in_range w32 0 4194304 bytes fits).1
few_bytes kinds.Directory bytes fits = let range = in_range w32 6 265222 bytes fits in omega (arith, range.1)

pub few_blocks : (n : Inode) → inode.Fits n → length n.blocks ≤ 1024
few_blocks n fits = omega (arith, count_is n fits, few_bytes n.kind n.size fits.1.0)

some_bytes : (k : Kind) (bytes : ℕ) → k ≡ kinds.Directory → (size k).Fits bytes → 6 ≤ bytes
some_bytes k bytes is fits = let inside : (size kinds.Directory).Fits bytes = subst (λ (j : Kind). (size j).Fits bytes) is fits in (in_range w32 6 265222 bytes inside).0

-- what has bytes has a block
pub some_block_of : (n : Inode) → inode.Fits n → 0 < n.size → 0 < length n.blocks
some_block_of n fits some = omega (arith, count_is n fits, some)

-- a directory has a block
pub some_block : (n : Inode) → inode.Fits n → n.kind ≡ kinds.Directory → 0 < length n.blocks
some_block n fits is = omega (arith, count_is n fits, some_bytes n.kind n.size is fits.1.0)

-- the bytes so far, and one block more
pub next_size : (size place block old new : ℕ) → old ≡ min (4096 * place) size → block ≡ size_of_block size place → new ≡ old + block → new ≡ min (4096 * (place + 1)) size
next_size size place block old new so_far is more = omega arith

-- ---- blocks that are missing

no_and : (a b c : Bool) → a && (b && (false && c)) ≡ false
no_and true true c = refl
no_and true false c = refl
no_and false b c = refl

no_and_last : (a b : Bool) → a && (b && false) ≡ false
no_and_last true true = refl
no_and_last true false = refl
no_and_last false b = refl

unless : (b : Bool) → not b ≡ true → b ≡ false
unless true is = absurd cc
unless false is = refl

-- what the spot of a block takes
abbrev pub block_taken : Blocks → Inode → ℕ → Kind → List ℕ → Bool
block_taken blocks n k kinds.File bytes = takes_file_block k bytes n
block_taken blocks n k kinds.Directory bytes = takes_block blocks k bytes n

other_size : (blocks : Blocks) (n : Inode) (k : ℕ) (kind : Kind) (bytes : List ℕ) → (length bytes == size_of_block n.size k) ≡ false → block_taken blocks n k kind bytes ≡ false
other_size blocks n k kinds.File bytes other = rw other (no_and_last (is_of_file n.kind) (nat_lt k (block_count n.size)))
other_size blocks n k kinds.Directory bytes other = rw other (no_and (not (is_of_file n.kind)) (nat_lt k (block_count n.size)) (nat_lt (k + 1) (block_count n.size) || completes directory blocks n k bytes))

pub taken_by : (blocks : Blocks) (digest : List ℕ) (n : Inode) (k : ℕ) (kind : Kind) (bytes : List ℕ) → inode_at blocks digest ≡ Some n → takes blocks (spot_of kind digest k) bytes ≡ block_taken blocks n k kind bytes
unfolding takes
taken_by blocks digest n k kinds.File bytes at = ap (λ (found : Option Inode). option_map_or (takes_file_block k bytes) found false) at
taken_by blocks digest n k kinds.Directory bytes at = ap (λ (found : Option Inode). option_map_or (takes_block blocks k bytes) found false) at

lacks_where : (blocks : Blocks) (digest : List ℕ) (n : Inode) (k : ℕ) (kind : Kind) (held : Option (List ℕ)) → inode_at blocks digest ≡ Some n → option_map_or (block_taken blocks n k kind) held false ≡ false
    → not (option_map_or (takes blocks (spot_of kind digest k)) held false) ≡ true
lacks_where blocks digest n k kind None at none = refl
lacks_where blocks digest n k kind (Some bytes) at none = ap not (taken_by blocks digest n k kind bytes at ∙ none)

no_size : (blocks : Blocks) (n : Inode) (k : ℕ) (kind : Kind) (held : Option (List ℕ)) → option_map_or (λ bytes. length bytes == size_of_block n.size k) held false ≡ false → option_map_or (block_taken blocks n k kind) held false ≡ false
no_size blocks n k kind None none = refl
no_size blocks n k kind (Some bytes) none = other_size blocks n k kind bytes none

-- no text of the block's size is held
pub lacks_block : (blocks : Blocks) (digest : List ℕ) (n : Inode) (k : ℕ) (kind : Kind) (block : List ℕ) → inode_at blocks digest ≡ Some n → option_map_or (λ bytes. length bytes == size_of_block n.size k) (blocks block) false ≡ false → lacks blocks block (spot_of kind digest k) ≡ true
lacks_block blocks digest n k kind block at none = lacks_where blocks digest n k kind (blocks block) at (no_size blocks n k kind (blocks block) none)

-- ---- all of them

-- the bytes of a file
pub file_read : {A : Type 0} (blocks : Blocks) (n : Inode) (r : Result (Vec ℕ A) ApplyError) → IfOk r (λ text. joined blocks n.blocks ≡ Some text.items) → IfOk r (λ text. length text.items ≡ n.size) → IfOk r (λ text. file_over blocks n ≡ Some text.items)
file_read blocks n (Ok text) all size = ap (option_and_then (if_of_size n.size)) all ∙ rw (eq-eqb (length text.items) n.size size) refl
file_read blocks n (Err e) all size = tt

-- what a text of the i-node's size spells
pub text_read : {T : Type 0} (f : Format T) (blocks : Blocks) (n : Inode) (text : List ℕ) (found : Option T) → joined blocks n.blocks ≡ Some text → length text ≡ n.size → found ≡ result_ok (whole f text) → option_and_then (of_size f n.size) (joined blocks n.blocks) ≡ found
text_read f blocks n text found all size is = ap (option_and_then (of_size f n.size)) all ∙ rw (eq-eqb (length text) n.size size) (sym is)

-- ---- the last block

abbrev pub with_last : Option (List ℕ) → Option (List ℕ) → Option (List ℕ)
with_last before last = option_and_then (λ front. option_map (λ bytes. front ++ bytes) last) before

one_last : (last : Option (List ℕ)) → option_and_then (λ text. option_map (λ rest. text ++ rest) (Some [])) last ≡ option_map (λ bytes. [] ++ bytes) last
one_last None = refl
one_last (Some bytes) = ap (λ (text : List ℕ). Some text) (append-nil bytes)

over_last : (text : List ℕ) (before last : Option (List ℕ)) → option_map (λ rest. text ++ rest) (with_last before last) ≡ with_last (option_map (λ rest. text ++ rest) before) last
over_last text None last = refl
over_last text (Some front) None = refl
over_last text (Some front) (Some bytes) = ap (λ (all : List ℕ). Some all) (sym (append_assoc text front bytes))

first_and_last : (first : Option (List ℕ)) (before after last : Option (List ℕ)) → after ≡ with_last before last
    → option_and_then (λ text. option_map (λ rest. text ++ rest) after) first ≡ with_last (option_and_then (λ text. option_map (λ rest. text ++ rest) before) first) last
first_and_last None before after last is = refl
first_and_last (Some text) before after last is = ap (option_map (λ rest. text ++ rest)) is ∙ over_last text before last

pub joined_last : (blocks : Blocks) (ds : List (List ℕ)) (d : List ℕ) → joined blocks (ds ++ d ∷ []) ≡ with_last (joined blocks ds) (blocks d)
unfolding joined
joined_last blocks [] d = one_last (blocks d)
joined_last blocks (x ∷ xs) d = first_and_last (blocks x) (joined blocks xs) (joined blocks (xs ++ d ∷ [])) (blocks d) (joined_last blocks xs d)

-- the first blocks, and one more
pub joined_more : (blocks : Blocks) (ds : List (List ℕ)) (k : ℕ) (d old bytes new : List ℕ) → k < length ds → d ≡ slice_index_or ds k d → blocks d ≡ Some bytes → new ≡ old ++ bytes → joined blocks (take k ds) ≡ Some old → joined blocks (take (k + 1) ds) ≡ Some new
joined_more blocks ds k d old bytes new inside at held is before =
    let front : take (k + 1) ds ≡ take k ds ++ d ∷ [] = rw add-one (take-suc ds k d inside ∙ ap (λ (x : List ℕ). take k ds ++ x ∷ []) (sym at)) in
    ap (joined blocks) front ∙ joined_last blocks (take k ds) d ∙ rw (before, held) (ap (λ (text : List ℕ). Some text) (sym is))

pub joined_all : (blocks : Blocks) (ds : List (List ℕ)) (k : ℕ) (text : List ℕ) → length ds ≤ k → joined blocks (take k ds) ≡ Some text → joined blocks ds ≡ Some text
joined_all blocks ds k text past all = ap (joined blocks) (sym (take_all k ds past)) ∙ all

front_held : (before last : Option (List ℕ)) (text : List ℕ) → with_last before last ≡ Some text → IsSome before
front_held None last text all = absurd cc
front_held (Some front) last text all = refl

-- a block of an i-node that is held, after others that are held
pub is_after_held : (blocks : Blocks) (digest : List ℕ) (n : Inode) (kind : Kind) (k : ℕ) (block : List ℕ) → inode_at blocks digest ≡ Some n → n.kind ≡ kind → k < length n.blocks → block ≡ slice_index_or n.blocks k block → IsSome (joined blocks (take k n.blocks)) → IsBlockAfterHeld blocks kind digest k block
is_after_held blocks digest n kind k block at of_kind inside here front = rw at (of_kind, slice_get_read n.blocks (length n.blocks) k block refl inside here, front)

-- it is one that may be asked for
some_after : (kind : Kind) (k : ℕ) (block : List ℕ) (blocks : Blocks) (found : Option Inode) → IsSomeAnd found (λ n. (n.kind ≡ kind) × (slice_get n.blocks k ≡ Some block) × IsSome (joined blocks (take k n.blocks)))
    → IsSomeAnd found (λ n. (n.kind ≡ kind) × (slice_get n.blocks k ≡ Some block) × (kind ≡ kinds.Directory → IsSome (joined blocks (take k n.blocks))))
some_after kind k block blocks None is = absurd is
some_after kind k block blocks (Some n) is = (is.0, is.1, λ of. is.2)

pub after_is_block_of : (blocks : Blocks) (kind : Kind) (digest : List ℕ) (k : ℕ) (block : List ℕ) → IsBlockAfterHeld blocks kind digest k block → IsBlockOf blocks kind digest k block
after_is_block_of blocks kind digest k block of = some_after kind k block blocks (inode_at blocks digest) of

pub after_is_block : (blocks : Blocks) (kind : Kind) (digest block : List ℕ) (s : Spot) → IsAfterHeld blocks kind digest block s → IsBlock blocks kind digest block s
after_is_block blocks kind digest block s (k, is, of) = (k, is, after_is_block_of blocks kind digest k block of)

not_some : {T : Type 0} (found : Option T) (t : Bool) → found ≡ None → is_some (if t then found else None) ≡ false
not_some found true none = ap is_some none
not_some found false none = refl

not_of_size : {T : Type 0} (f : Format T) (size : ℕ) (text : List ℕ) → result_ok (whole f text) ≡ None → is_some (of_size f size text) ≡ false
not_of_size f size text none = not_some (result_ok (whole f text)) (length text == size) none

not_complete : {T : Type 0} (f : Format T) (size : ℕ) (before : Option (List ℕ)) (bytes text : List ℕ) → with_last before (Some bytes) ≡ Some text → result_ok (whole f text) ≡ None → option_map_or (λ front. is_some (of_size f size (front ++ bytes))) before false ≡ false
not_complete f size None bytes text all none = refl
not_complete f size (Some front) bytes text all none =
    let same : text ≡ front ++ bytes = cc in
    subst (λ (t : List ℕ). is_some (of_size f size t) ≡ false) same (not_of_size f size text none)

no_and_more : (a b : Bool) → a && (b && false) ≡ false
no_and_more true true = refl
no_and_more true false = refl
no_and_more false b = refl

no_and_at_all : (a : Bool) → a && false ≡ false
no_and_at_all true = refl
no_and_at_all false = refl

-- a last block with which the others spell no text is none of it
last_wrong : {T : Type 0} (f : Format T) (blocks : Blocks) (n : Inode) (k : ℕ) (text bytes : List ℕ) → k + 1 ≡ block_count n.size → with_last (joined blocks (take k n.blocks)) (Some bytes) ≡ Some text → result_ok (whole f text) ≡ None → is_block_of f blocks k bytes n ≡ false
last_wrong f blocks n k text bytes is all none =
    let past : nat_lt (k + 1) (block_count n.size) ≡ false = grind (arith, nat_tests) in
    let wrong = not_complete f n.size (joined blocks (take k n.blocks)) bytes text all none in
    rw (past, wrong) (no_and_more (nat_lt k (block_count n.size)) (length bytes == size_of_block n.size k))

last_wrong_held : {T : Type 0} (f : Format T) (of_kind : Bool) (blocks : Blocks) (n : Inode) (k : ℕ) (text : List ℕ) (last : Option (List ℕ)) → k + 1 ≡ block_count n.size → with_last (joined blocks (take k n.blocks)) last ≡ Some text → result_ok (whole f text) ≡ None
    → option_map_or (λ bytes. of_kind && is_block_of f blocks k bytes n) last false ≡ false
last_wrong_held f of_kind blocks n k text None is all none = refl
last_wrong_held f of_kind blocks n k text (Some bytes) is all none = rw (last_wrong f blocks n k text bytes is all none) (no_and_at_all of_kind)

pub front_and_last : (ds : List (List ℕ)) (k : ℕ) (d : List ℕ) → k + 1 ≡ length ds → d ≡ slice_index_or ds k d → ds ≡ take k ds ++ d ∷ []
front_and_last ds k d is at =
    let here : k < length ds = omega arith in
    let past : length ds ≤ suc k = omega arith in
    sym (take_all (suc k) ds past) ∙ take-suc ds k d here ∙ ap (λ (x : List ℕ). take k ds ++ x ∷ []) (sym at)

-- where all are held, those before the last one are
pub front_joined : (blocks : Blocks) (ds : List (List ℕ)) (k : ℕ) (d text : List ℕ) → k + 1 ≡ length ds → d ≡ slice_index_or ds k d → joined blocks ds ≡ Some text → IsSome (joined blocks (take k ds))
front_joined blocks ds k d text is here all =
    front_held (joined blocks (take k ds)) (blocks d) text (sym (joined_last blocks (take k ds) d) ∙ sym (ap (joined blocks) (front_and_last ds k d is here)) ∙ all)

-- the blocks are held, and spell no directory
pub lacks_last : (blocks : Blocks) (digest : List ℕ) (n : Inode) (k : ℕ) (block text : List ℕ) → inode.Fits n → inode_at blocks digest ≡ Some n → k + 1 ≡ length n.blocks → block ≡ slice_index_or n.blocks k block → joined blocks n.blocks ≡ Some text → result_ok (whole directory text) ≡ None → lacks blocks block (spot.Directory digest k) ≡ true
lacks_last blocks digest n k block text fits at is here all none =
    let split = sym (joined_last blocks (take k n.blocks) block) ∙ sym (ap (joined blocks) (front_and_last n.blocks k block is here)) ∙ all in
    lacks_where blocks digest n k kinds.Directory (blocks block) at (last_wrong_held directory (not (is_of_file n.kind)) blocks n k text (blocks block) (is ∙ count_is n fits) split none)

-- ---- the table of principals

-- the file of which it is
pub table_file : (blocks : Blocks) (n : Inode) (text : List ℕ) (t : Table) → joined blocks n.blocks ≡ Some text → length text ≡ n.size → text ≡ table.spell t → file_over blocks n ≡ Some (table.spell t)
table_file blocks n text t all size is = ap (option_and_then (if_of_size n.size)) all ∙ rw (eq-eqb (length text) n.size size) (ap (λ (x : List ℕ). Some x) is)

pub table_taken_by : (blocks : Blocks) (digest : List ℕ) (n : Inode) (k : ℕ) (bytes : List ℕ) → inode_at blocks digest ≡ Some n → takes blocks (spot.Table digest k) bytes ≡ takes_table_block blocks k bytes n
unfolding takes
table_taken_by blocks digest n k bytes at = ap (λ (found : Option Inode). option_map_or (takes_table_block blocks k bytes) found false) at

table_lacks_where : (blocks : Blocks) (digest : List ℕ) (n : Inode) (k : ℕ) (held : Option (List ℕ)) → inode_at blocks digest ≡ Some n → option_map_or (λ bytes. takes_table_block blocks k bytes n) held false ≡ false
    → not (option_map_or (takes blocks (spot.Table digest k)) held false) ≡ true
table_lacks_where blocks digest n k None at none = refl
table_lacks_where blocks digest n k (Some bytes) at none = ap not (table_taken_by blocks digest n k bytes at ∙ none)

-- the blocks are held, and spell no table
pub table_lacks_last : (blocks : Blocks) (digest : List ℕ) (n : Inode) (k : ℕ) (block text : List ℕ) → inode.Fits n → inode_at blocks digest ≡ Some n → k + 1 ≡ length n.blocks → block ≡ slice_index_or n.blocks k block → joined blocks n.blocks ≡ Some text → result_ok (whole table text) ≡ None → lacks blocks block (spot.Table digest k) ≡ true
table_lacks_last blocks digest n k block text fits at is here all none =
    let split = sym (joined_last blocks (take k n.blocks) block) ∙ sym (ap (joined blocks) (front_and_last n.blocks k block is here)) ∙ all in
    table_lacks_where blocks digest n k (blocks block) at (last_wrong_held table (is_of_file n.kind) blocks n k text (blocks block) (is ∙ count_is n fits) split none)

fewer : (a b c d : Bool) → a && (b && c) ≡ false → a && (b && (c && d)) ≡ false
fewer true true true d none = absurd cc
fewer true true false d none = refl
fewer true false c d none = refl
fewer false b c d none = refl

no_block_of_file : (blocks : Blocks) (digest : List ℕ) (n : Inode) (k : ℕ) (held : Option (List ℕ)) → inode_at blocks digest ≡ Some n → not (option_map_or (takes blocks (spot.File digest k)) held false) ≡ true → not (option_map_or (takes blocks (spot.Table digest k)) held false) ≡ true
no_block_of_file blocks digest n k None at none = refl
no_block_of_file blocks digest n k (Some bytes) at none =
    let not_taken : takes_file_block k bytes n ≡ false = sym (taken_by blocks digest n k kinds.File bytes at) ∙ unless (takes blocks (spot.File digest k) bytes) none in
    ap not (table_taken_by blocks digest n k bytes at ∙ fewer (is_of_file n.kind) (nat_lt k (block_count n.size)) (length bytes == size_of_block n.size k) (nat_lt (k + 1) (block_count n.size) || completes table blocks n k bytes) not_taken)

-- what isn't even a block of the file is none of the table
pub table_lacks_block : (blocks : Blocks) (digest : List ℕ) (n : Inode) (k : ℕ) (block : List ℕ) → inode_at blocks digest ≡ Some n → lacks blocks block (spot.File digest k) ≡ true → lacks blocks block (spot.Table digest k) ≡ true
table_lacks_block blocks digest n k block at none = no_block_of_file blocks digest n k (blocks block) at none

table_lacks_at : (blocks : Blocks) (digest : List ℕ) (n : Inode) (block : List ℕ) (s : Spot) → inode_at blocks digest ≡ Some n → IsAfterHeld blocks kinds.File digest block s → lacks blocks block s ≡ true → IsTableBlock blocks digest block (table_spot s) × (lacks blocks block (table_spot s) ≡ true)
table_lacks_at blocks digest n block s at (k, is, of) none =
    let there : lacks blocks block (spot.File digest k) ≡ true = subst (λ (x : Spot). lacks blocks block x ≡ true) is none in
    let to : table_spot s ≡ spot.Table digest k = ap table_spot is in
    ((k, to, of), subst (λ (x : Spot). lacks blocks block x ≡ true) (sym to) (table_lacks_block blocks digest n k block at there))

-- a missing block of the file is one of the table
pub as_table_lacks : (blocks : Blocks) (digest : List ℕ) (n : Inode) (e : ApplyError) → inode_at blocks digest ≡ Some n → Lacks blocks (IsAfterHeld blocks kinds.File digest) e → Lacks blocks (IsTableBlock blocks digest) (as_table e)
as_table_lacks blocks digest n (error.Missing block s) at (is, none) = table_lacks_at blocks digest n block s at is none
as_table_lacks blocks digest n error.Memory at none = tt
