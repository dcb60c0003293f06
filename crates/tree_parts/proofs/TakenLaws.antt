-- The blocks that were read are what their places take.
use Rattle.std.proofs.Common.{◌≡◌, ℕ, ◌+◌, ◌*◌, ◌<◌, ◌≤◌, min, true, false, List, ◌++◌, length, take, Option, Some, None, Result, Ok, Err, refl, sym, ap, subst, ◌∙◌, inl, inr, arith}
use Rattle.std.specs.Prelude.{not, ◌||◌, ◌==◌, is_some, IsSome, IsSomeAnd, OnOk, nat_lt, slice_get, slice_index_or}
use Rattle.std.proofs.lemmas.Bool.{cases_lt, eq-eqb}
use Rattle.std.proofs.lemmas.Bool.Decides.{nat_tests}
use Rattle.std.proofs.lemmas.List.{length-append, take_all}
use Rattle.std.proofs.lemmas.Option.{get_or_from_slice_get, slice_get_read, slice_get_within}
use Rattle.std.specs.Option.{option_map_or}
use Rattle.std.specs.Result.{result_ok}
use Rattle.layout.specs.Format.{Format, whole}
use Rattle.itable.specs.Inode.{Inode, inode, block_count}
use Rattle.itable.specs.declared.inode.Kind.{Kind}
use Rattle.itable.specs.declared.inode.Kind.TheVariants as kinds
use Rattle.directory.specs.Directory.{Entry, directory}
use Rattle.principals.specs.Table.{Table}
use Rattle.principals.specs.TableText.{table}
use Rattle.tree_parts.specs.Blocks.{Blocks, inode_at, joined, of_size}
use Rattle.tree_parts.specs.Asked.{HasBlocks, HasPrincipals, IsOfPrincipals}
use Rattle.tree_parts.specs.Acts.{IsSized}
use Rattle.tree_parts.specs.Spot.{takes, completes, size_of_block, spot_of, lacks}
use Rattle.tree_parts.specs.declared.error.ApplyError.{ApplyError}
use Rattle.tree_parts.specs.declared.spot.Spot.{Spot}
use Rattle.tree_parts.specs.declared.spot.Spot.TheVariants as spot
use Rattle.tree_parts.proofs.Joins.{joined_end}
use Rattle.tree_parts.proofs.ReadingLaws.{block_taken, count_is, front_and_last, joined_last, joined_more, next_size, table_taken_by, taken_by, with_last}

-- ---- the first blocks, and one more

abbrev pub AreSized : Blocks → Inode → ℕ → Type 0
AreSized blocks n place = (k : ℕ) (block : List ℕ) → k < place → slice_get n.blocks k ≡ Some block → IsSized blocks n k block

one_sized : (blocks : Blocks) (n : Inode) (k : ℕ) (block bytes : List ℕ) → blocks block ≡ Some bytes → length bytes ≡ size_of_block n.size k → IsSized blocks n k block
one_sized blocks n k block bytes held size = rw held (eq-eqb (length bytes) (size_of_block n.size k) size)

pub sized_next : (blocks : Blocks) (n : Inode) (place : ℕ) (d bytes : List ℕ) → place < length n.blocks → d ≡ slice_index_or n.blocks place d → blocks d ≡ Some bytes → length bytes ≡ size_of_block n.size place → AreSized blocks n place → AreSized blocks n (place + 1)
sized_next blocks n place d bytes inside at held size before k block lt here =
    elim (cases_lt k place) [
      | inl earlier ↦ before k block earlier here
      | inr late ↦ (
          let same : k ≡ place = omega arith in
          let there : slice_get n.blocks place ≡ Some d = slice_get_read n.blocks (length n.blocks) place d refl inside at in
          let is : d ≡ block = let both : Some d ≡ Some block = sym there ∙ sym (ap (slice_get n.blocks) same) ∙ here in cc in
          subst (λ (j : ℕ). IsSized blocks n j block) (sym same) (subst (IsSized blocks n place) is (one_sized blocks n place d bytes held size)))
    ]

pub all_sized : (blocks : Blocks) (n : Inode) (place : ℕ) → length n.blocks ≤ place → AreSized blocks n place → (k : ℕ) (block : List ℕ) → slice_get n.blocks k ≡ Some block → IsSized blocks n k block
all_sized blocks n place past sized k block here = sized k block (let inside = slice_get_within n.blocks k block here in omega (arith, inside)) here

-- the first blocks are held, and make as many bytes as that many blocks have
abbrev pub AreWhole : Blocks → Inode → ℕ → Type 0
AreWhole blocks n place = IsSomeAnd (joined blocks (take place n.blocks)) (λ text. length text ≡ min (4096 * place) n.size)

pub whole_first : (blocks : Blocks) (n : Inode) → AreWhole blocks n 0
whole_first blocks n = rw (joined_end blocks) (omega arith)

whole_more : (blocks : Blocks) (n : Inode) (place : ℕ) (d bytes : List ℕ) (front : Option (List ℕ)) → joined blocks (take place n.blocks) ≡ front → IsSomeAnd front (λ text. length text ≡ min (4096 * place) n.size)
    → place < length n.blocks → d ≡ slice_index_or n.blocks place d → blocks d ≡ Some bytes → length bytes ≡ size_of_block n.size place → AreWhole blocks n (place + 1)
whole_more blocks n place d bytes None is before inside at held size = absurd before
whole_more blocks n place d bytes (Some old) is before inside at held size =
    let all : joined blocks (take (place + 1) n.blocks) ≡ Some (old ++ bytes) = joined_more blocks n.blocks place d old bytes (old ++ bytes) inside at held refl is in
    rw all (next_size n.size place (length bytes) (length old) (length (old ++ bytes)) before size (length-append old bytes))

pub whole_next : (blocks : Blocks) (n : Inode) (place : ℕ) (d bytes : List ℕ) → place < length n.blocks → d ≡ slice_index_or n.blocks place d → blocks d ≡ Some bytes → length bytes ≡ size_of_block n.size place → AreWhole blocks n place → AreWhole blocks n (place + 1)
whole_next blocks n place d bytes inside at held size before = whole_more blocks n place d bytes (joined blocks (take place n.blocks)) refl before inside at held size

pub all_whole : (blocks : Blocks) (n : Inode) (place : ℕ) → inode.Fits n → length n.blocks ≤ place → AreWhole blocks n place → IsSomeAnd (joined blocks n.blocks) (λ text. length text ≡ n.size)
all_whole blocks n place fits past whole =
    let bytes : min (4096 * place) n.size ≡ n.size = omega (arith, past, count_is n fits) in
    subst (λ (ds : List (List ℕ)). IsSomeAnd (joined blocks ds) (λ text. length text ≡ n.size)) (take_all place n.blocks past)
    (subst (λ (size : ℕ). IsSomeAnd (joined blocks (take place n.blocks)) (λ text. length text ≡ size)) bytes whole)

pub some_whole : (found : Option (List ℕ)) (size : ℕ) → IsSomeAnd found (λ text. length text ≡ size) → IsSome found
some_whole None size is = absurd is
some_whole (Some text) size is = refl

-- ---- what their places take

-- what is held under a digest is taken, if anything is and what is would be
is_taken : (blocks : Blocks) (s : Spot) (held : Option (List ℕ)) → IsSome held → ((bytes : List ℕ) → held ≡ Some bytes → takes blocks s bytes ≡ true) → not (option_map_or (takes blocks s) held false) ≡ false
is_taken blocks s None some taken = absurd cc
is_taken blocks s (Some bytes) some taken = ap not (taken bytes refl)

some_sized : (held : Option (List ℕ)) (size : ℕ) → option_map_or (λ bytes. length bytes == size) held false ≡ true → IsSome held
some_sized None size is = absurd cc
some_sized (Some bytes) size is = refl

abbrev IsBlockTaken : Blocks → Inode → ℕ → Kind → List ℕ → Type 0
IsBlockTaken blocks n k kind block = (bytes : List ℕ) → blocks block ≡ Some bytes → block_taken blocks n k kind bytes ≡ true

-- where each block is taken, none is missing
has_blocks : (blocks : Blocks) (digest : List ℕ) (n : Inode) (kind : Kind) → inode_at blocks digest ≡ Some n → ((k : ℕ) (block : List ℕ) → slice_get n.blocks k ≡ Some block → IsSized blocks n k block)
    → ((k : ℕ) (block : List ℕ) → slice_get n.blocks k ≡ Some block → IsBlockTaken blocks n k kind block) → HasBlocks blocks kind digest
has_blocks blocks digest n kind at sized taken block s (k, is, of) =
    let told = subst (λ (o : Option Inode). IsSomeAnd o (λ m. (m.kind ≡ kind) × (slice_get m.blocks k ≡ Some block) × (kind ≡ kinds.Directory → IsSome (joined blocks (take k m.blocks))))) at of in
    let here : slice_get n.blocks k ≡ Some block = told.1 in
    subst (λ (x : Spot). lacks blocks block x ≡ false) (sym is)
    (is_taken blocks (spot_of kind digest k) (blocks block) (some_sized (blocks block) (size_of_block n.size k) (sized k block here)) (λ bytes held. taken_by blocks digest n k kind bytes at ∙ taken k block here bytes held))

size_told : (blocks : Blocks) (n : Inode) (k : ℕ) (block bytes : List ℕ) → IsSized blocks n k block → blocks block ≡ Some bytes → (length bytes == size_of_block n.size k) ≡ true
size_told blocks n k block bytes sized held = sym (ap (λ (o : Option (List ℕ)). option_map_or (λ text. length text == size_of_block n.size k) o false) held) ∙ sized

counted : (n : Inode) (k : ℕ) (block : List ℕ) → inode.Fits n → slice_get n.blocks k ≡ Some block → nat_lt k (block_count n.size) ≡ true
counted n k block fits here =
    let inside = slice_get_within n.blocks k block here in
    let count = count_is n fits in
    let lt : k < block_count n.size = omega (arith, inside, count) in
    grind (arith, nat_tests)

file_taken : (blocks : Blocks) (digest : List ℕ) (n : Inode) → inode.Fits n → inode_at blocks digest ≡ Some n → n.kind ≡ kinds.File → ((k : ℕ) (block : List ℕ) → slice_get n.blocks k ≡ Some block → IsSized blocks n k block) → HasBlocks blocks kinds.File digest
file_taken blocks digest n fits at of_file sized =
    has_blocks blocks digest n kinds.File at sized (λ k block here bytes held. rw (of_file, counted n k block fits here, size_told blocks n k block bytes (sized k block here) held) refl)

-- of what was read, if it was
pub file_read_taken : {X : Type 0} (blocks : Blocks) (digest : List ℕ) (n : Inode) (r : Result X ApplyError) → inode.Fits n → inode_at blocks digest ≡ Some n → n.kind ≡ kinds.File → OnOk r ((k : ℕ) (block : List ℕ) → slice_get n.blocks k ≡ Some block → IsSized blocks n k block) → OnOk r (HasBlocks blocks kinds.File digest)
file_read_taken blocks digest n (Ok x) fits at of_file sized = file_taken blocks digest n fits at of_file sized
file_read_taken blocks digest n (Err e) fits at of_file sized = tt

completed : {T : Type 0} (f : Format T) (before : Option (List ℕ)) (bytes text : List ℕ) (size : ℕ) (x : T) → with_last before (Some bytes) ≡ Some text → length text ≡ size → result_ok (whole f text) ≡ Some x → option_map_or (λ front. is_some (of_size f size (front ++ bytes))) before false ≡ true
completed f None bytes text size x all long read = absurd cc
completed f (Some front) bytes text size x all long read =
    let same : text ≡ front ++ bytes = cc in
    subst (λ (t : List ℕ). is_some (of_size f size t) ≡ true) same (rw (eq-eqb (length text) size long) (ap is_some read))

-- the last block, or one before it
completes_it : {T : Type 0} (f : Format T) (blocks : Blocks) (n : Inode) (k : ℕ) (block bytes text : List ℕ) (x : T) → inode.Fits n → slice_get n.blocks k ≡ Some block → blocks block ≡ Some bytes → joined blocks n.blocks ≡ Some text → length text ≡ n.size → result_ok (whole f text) ≡ Some x
    → (nat_lt (k + 1) (block_count n.size) || completes f blocks n k bytes) ≡ true
completes_it f blocks n k block bytes text x fits here held all long read =
    elim (cases_lt (k + 1) (block_count n.size)) [
      | inl earlier ↦ (let more : nat_lt (k + 1) (block_count n.size) ≡ true = grind (arith, nat_tests) in rw more refl)
      | inr late ↦ (
          let inside = slice_get_within n.blocks k block here in
          let count = count_is n fits in
          let last : k + 1 ≡ length n.blocks = omega (arith, inside, count) in
          let front = sym (joined_last blocks (take k n.blocks) block) ∙ sym (ap (joined blocks) (front_and_last n.blocks k block last (sym (get_or_from_slice_get n.blocks k block block here)))) ∙ all in
          let split : with_last (joined blocks (take k n.blocks)) (Some bytes) ≡ Some text = ap (with_last (joined blocks (take k n.blocks))) (sym held) ∙ front in
          let no_more : nat_lt (k + 1) (block_count n.size) ≡ false = grind (arith, nat_tests) in
          rw no_more (completed f (joined blocks (take k n.blocks)) bytes text n.size x split long read))
    ]

pub directory_taken : (blocks : Blocks) (digest text : List ℕ) (n : Inode) (es : List Entry) → inode.Fits n → inode_at blocks digest ≡ Some n → n.kind ≡ kinds.Directory → ((k : ℕ) (block : List ℕ) → slice_get n.blocks k ≡ Some block → IsSized blocks n k block)
    → joined blocks n.blocks ≡ Some text → length text ≡ n.size → result_ok (whole directory text) ≡ Some es → HasBlocks blocks kinds.Directory digest
directory_taken blocks digest text n es fits at of_directory sized all long read =
    has_blocks blocks digest n kinds.Directory at sized
    (λ k block here bytes held. rw (of_directory, counted n k block fits here, size_told blocks n k block bytes (sized k block here) held, completes_it directory blocks n k block bytes text es fits here held all long read) refl)

-- ---- the table of principals

table_block_taken : (blocks : Blocks) (digest text block : List ℕ) (n : Inode) (t : Table) (k : ℕ) → inode.Fits n → inode_at blocks digest ≡ Some n → n.kind ≡ kinds.File → slice_get n.blocks k ≡ Some block → IsSized blocks n k block
    → joined blocks n.blocks ≡ Some text → length text ≡ n.size → result_ok (whole table text) ≡ Some t → lacks blocks block (spot.Table digest k) ≡ false
table_block_taken blocks digest text block n t k fits at of_file here sized all long read =
    is_taken blocks (spot.Table digest k) (blocks block) (some_sized (blocks block) (size_of_block n.size k) sized)
    (λ bytes held. table_taken_by blocks digest n k bytes at
    ∙ rw (of_file, counted n k block fits here, size_told blocks n k block bytes sized held, completes_it table blocks n k block bytes text t fits here held all long read) refl)

inode_and_blocks : (blocks : Blocks) (inode_digest text : List ℕ) (n : Inode) (t : Table) → inode.Fits n → inode_at blocks inode_digest ≡ Some n → n.kind ≡ kinds.File → lacks blocks inode_digest (spot.Inode 0 1) ≡ false
    → ((k : ℕ) (block : List ℕ) → slice_get n.blocks k ≡ Some block → IsSized blocks n k block)
    → joined blocks n.blocks ≡ Some text → length text ≡ n.size → result_ok (whole table text) ≡ Some t → (digest : List ℕ) (s : Spot) → IsOfPrincipals blocks inode_digest digest s → lacks blocks digest s ≡ false
inode_and_blocks blocks inode_digest text n t fits at of_file there sized all long read digest s (inl is) = rw (is.0, is.1) there
inode_and_blocks blocks inode_digest text n t fits at of_file there sized all long read digest s (inr (k, is, of)) =
    let told = subst (λ (o : Option Inode). IsSomeAnd o (λ m. (m.kind ≡ kinds.File) × (slice_get m.blocks k ≡ Some digest) × IsSome (joined blocks (take k m.blocks)))) at of in
    subst (λ (x : Spot). lacks blocks digest x ≡ false) (sym is)
    (table_block_taken blocks inode_digest text digest n t k fits at of_file told.1 (sized k digest told.1) all long read)

-- nothing of a table that was read is missing
pub principals_taken : (blocks : Blocks) (inode_digest text : List ℕ) (n : Inode) (t : Table) → inode.Fits n → inode_at blocks inode_digest ≡ Some n → n.kind ≡ kinds.File → lacks blocks inode_digest (spot.Inode 0 1) ≡ false
    → ((k : ℕ) (block : List ℕ) → slice_get n.blocks k ≡ Some block → IsSized blocks n k block)
    → joined blocks n.blocks ≡ Some text → length text ≡ n.size → result_ok (whole table text) ≡ Some t → HasPrincipals blocks inode_digest
principals_taken blocks inode_digest text n t fits at of_file there sized all long read = λ digest s of. inode_and_blocks blocks inode_digest text n t fits at of_file there sized all long read digest s of
