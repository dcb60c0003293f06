-- What a client holds and has at the beginning.
use Rattle.std.proofs.Common.{◌≡◌, ℕ, zero, suc, ◌<◌, ◌≤◌, Bool, true, false, List, [], ◌∷◌, length, map, Option, Some, None, refl, sym, ap, subst, ◌∙◌, inl, inr, arith, length-append}
use Rattle.std.specs.Prelude.{◌==◌, ◌&&◌, Contains, if◌then◌else◌}
use Rattle.std.specs.Int.{w16, w32}
use Rattle.std.specs.Option.{option_and_then, option_map}
use Rattle.std.specs.Ordering.{nat_cmp, is_eq}
use Rattle.std.specs.Result.{result_ok}
use Rattle.std.specs.Str.{bytes_eq}
use Rattle.std.proofs.lemmas.Bool.{cases_eq, eq-eqb, ne_eqb}
use Rattle.std.proofs.lemmas.Bool.Decides.{nat_tests, not_from_Decides}
use Rattle.std.proofs.lemmas.List.{append-nil}
use Rattle.std.proofs.lemmas.Slice.Eq.{bytes_eq-Decides}
use Rattle.layout.specs.Format.{be, spell_rows, FitRows}
use Rattle.layout.specs.Laws.{in_range_fits, whole_again}
use Rattle.layout.specs.Hash.{hash}
use Rattle.itable.specs.declared.inode.Kind.TheVariants as kind
use Rattle.itable.specs.Inode.{inode}
use Rattle.itable.specs.File.{NoneCollide, blocks_of}
use Rattle.itable.specs.ITable.{digest_in, digest_at}
use Rattle.itable.proofs.Blocks.{next_block, no_block}
use Rattle.itable.proofs.FileLaws.{file_fits, inode_fits}
use Rattle.directory.specs.Directory.{directory}
use Rattle.directory.specs.DirectoryLaws.{lawful_directory}
use Rattle.update_cert.specs.World.{Content, File, Directory, genesis, is_table}
use Rattle.update_cert.specs.Reading.{Reading}
use Rattle.tree_parts.specs.Blocks.{Agrees, Blocks, directory_over, file_over, if_of_size, joined, of_size}
use Rattle.tree_parts.proofs.Contents.{directory_is, file_is, inode_held}
use Rattle.client_tree.specs.Held.{Block, held, keeping, keeping_all}
use Rattle.checked_blocks.specs.CheckedBlocks.{CheckedBlocks, at_first, known_blocks}
use Rattle.checked_blocks.proofs.BlockLaws.{known-at_first}
use Rattle.client_tree.proofs.HeldLaws.{with_new, with_none, with_old}
use Rattle.client_tree.specs.Genesis.{inode_digest, common_texts, first_blocks, first_pairs, first_table, first_texts, root_inode, table_inode, table_text}

-- ---- what is held

-- each text that is held is one of these, and has its digest
abbrev AreAmong : List (List ℕ) → List Block → Type 0
AreAmong texts blocks = (d x : List ℕ) → held blocks d ≡ Some x → Contains texts x × (d ≡ hash x)

-- what wasn't held before a text is kept is the text
is_new : (blocks : List Block) (text d x : List ℕ) (t : Bool) → bytes_eq d (hash text) ≡ t → held blocks d ≡ None → held (keeping blocks text) d ≡ Some x → (text ≡ x) × (d ≡ hash text)
is_new blocks text d x true same none is =
    let at : d ≡ hash text = (bytes_eq-Decides d (hash text)).0 same in
    let one : Some text ≡ Some x = with_new blocks text d none at ∙ is in
    (cc, at)
is_new blocks text d x false same none is =
    let other : d ≡ hash text → ⊥ = not_from_Decides _ (bytes_eq-Decides d (hash text)) same in
    let clash : None ≡ Some x = with_none blocks text d none other ∙ is in
    absurd cc

among_step : (texts : List (List ℕ)) (blocks : List Block) (text d x : List ℕ) (o : Option (List ℕ)) → held blocks d ≡ o → Contains texts text → AreAmong texts blocks → held (keeping blocks text) d ≡ Some x → Contains texts x × (d ≡ hash x)
among_step texts blocks text d x (Some y) was inside among is = among d x (was ∙ with_old blocks text d y was ∙ is)
among_step texts blocks text d x None was inside among is =
    let new = is_new blocks text d x (bytes_eq d (hash text)) refl was is in
    subst (λ (y : List ℕ). Contains texts y × (d ≡ hash y)) new.0 (inside, new.1)

among_kept : (texts : List (List ℕ)) (blocks : List Block) (text : List ℕ) → Contains texts text → AreAmong texts blocks → AreAmong texts (keeping blocks text)
among_kept texts blocks text inside among d x is = among_step texts blocks text d x (held blocks d) refl inside among is

-- a text that is kept is held, where it has no other one's digest
kept : (texts : List (List ℕ)) (blocks : List Block) (text : List ℕ) (o : Option (List ℕ)) → held blocks (hash text) ≡ o → NoneCollide texts texts → Contains texts text → AreAmong texts blocks → held (keeping blocks text) (hash text) ≡ Some text
kept texts blocks text None was apart inside among = sym (with_new blocks text (hash text) was refl)
kept texts blocks text (Some y) was apart inside among =
    let there = among (hash text) y was in
    let same : y ≡ text = apart y text there.0 inside (sym there.1) in
    sym (with_old blocks text (hash text) y was) ∙ ap (λ (x : List ℕ). Some x) same

stays : (texts : List (List ℕ)) (blocks : List Block) (d x : List ℕ) → held blocks d ≡ Some x → held (keeping_all blocks texts) d ≡ Some x
unfolding keeping_all
stays [] blocks d x is = is
stays (text ∷ texts) blocks d x is = stays texts (keeping blocks text) d x (sym (with_old blocks text d x is))

abbrev IsWithin : List (List ℕ) → List (List ℕ) → Type 0
IsWithin all texts = (x : List ℕ) → Contains texts x → Contains all x

first_within : (all : List (List ℕ)) (text : List ℕ) (texts : List (List ℕ)) → IsWithin all (text ∷ texts) → Contains all text
first_within all text texts within = within text (0, omega arith, refl)

others_within : (all : List (List ℕ)) (text : List ℕ) (texts : List (List ℕ)) → IsWithin all (text ∷ texts) → IsWithin all texts
others_within all text texts within x (k, inside, at) = within x (suc k, omega arith, at)

-- each of texts that are kept is held, where none of all has another one's digest
all_kept : (all texts : List (List ℕ)) (blocks : List Block) → NoneCollide all all → IsWithin all texts → AreAmong all blocks → (text : List ℕ) → Contains texts text → held (keeping_all blocks texts) (hash text) ≡ Some text
unfolding keeping_all
all_kept all [] blocks apart within among text (k, inside, at) = absurd (omega arith)
all_kept all (x ∷ xs) blocks apart within among text (zero, inside, at) =
    let first : held (keeping blocks x) (hash x) ≡ Some x = kept all blocks x (held blocks (hash x)) refl apart (first_within all x xs within) among in
    subst (λ (y : List ℕ). held (keeping_all (keeping blocks x) xs) (hash y) ≡ Some y) at (stays xs (keeping blocks x) (hash x) x first)
all_kept all (x ∷ xs) blocks apart within among text (suc k, inside, at) =
    all_kept all xs (keeping blocks x) apart (others_within all x xs within) (among_kept all blocks x (first_within all x xs within) among) text (k, omega arith, at)

none_among : (texts : List (List ℕ)) → AreAmong texts []
unfolding held
none_among texts d x is = absurd cc

pub held_at_first : (key : List ℕ) → NoneCollide (first_texts key) (first_texts key) → (text : List ℕ) → Contains (first_texts key) text → held (first_blocks key) (hash text) ≡ Some text
unfolding first_blocks
held_at_first key apart text inside =
    all_kept (first_texts key) (first_texts key) [] apart (λ x at. at) (none_among (first_texts key)) text inside

-- ---- what it is of

-- bytes that are one block
one_block : (bytes : List ℕ) → 0 < length bytes → length bytes ≤ 4096 → blocks_of bytes ≡ bytes ∷ []
one_block bytes some few = next_block bytes bytes [] (sym (append-nil bytes)) (omega arith) some ∙ ap (λ (bs : List (List ℕ)). bytes ∷ bs) (no_block [] refl)

alone_joined : (blocks : Blocks) (bytes : List ℕ) → blocks (hash bytes) ≡ Some bytes → joined blocks (hash bytes ∷ []) ≡ Some bytes
unfolding joined
alone_joined blocks bytes is = rw is (ap (λ (all : List ℕ). Some all) (append-nil bytes))

over_one : (blocks : Blocks) (bytes : List ℕ) → 0 < length bytes → length bytes ≤ 4096 → blocks (hash bytes) ≡ Some bytes → joined blocks (map hash (blocks_of bytes)) ≡ Some bytes
over_one blocks bytes some few is = ap (λ (bs : List (List ℕ)). joined blocks (map hash bs)) (one_block bytes some few) ∙ alone_joined blocks bytes is

table_is : (blocks : Blocks) (reads : Reading) (key : List ℕ) → length (table_text key) ≡ 68 → Agrees blocks reads → blocks (hash (table_text key)) ≡ Some (table_text key) → blocks (inode_digest (table_inode key)) ≡ Some (inode.spell (table_inode key))
    → Some (File (table_text key)) ≡ Some (reads.content (inode_digest (table_inode key)))
table_is blocks reads key size agrees text is =
    let bytes = table_text key in
    let n = table_inode key in
    let over : file_over blocks n ≡ Some bytes = ap (option_and_then (if_of_size n.size)) (over_one blocks bytes (omega (arith, size)) (omega (arith, size)) text) ∙ rw (eq-eqb (length bytes) (length bytes) refl) refl in
    ap (λ (content : Content). Some content) (sym (file_is blocks reads (inode_digest n) bytes n agrees (inode_held blocks n (file_fits bytes (omega (arith, size))) is) refl over))

empty_size : length (directory.spell []) ≡ 6
unfolding be spell_rows
empty_size = refl

empty_fits : directory.Fits []
unfolding FitRows
empty_fits = (in_range_fits w16 0 1024 0 (omega arith) (omega arith) (omega arith), (refl, tt))

root_fits : inode.Fits root_inode
root_fits =
    let size = empty_size in
    inode_fits kind.Directory (directory.spell []) (in_range_fits w32 6 265222 (length (directory.spell [])) (omega (arith, size)) (omega (arith, size)) (omega (arith, size))) (omega (arith, size))

root_is : (blocks : Blocks) (reads : Reading) → Agrees blocks reads → blocks (hash (directory.spell [])) ≡ Some (directory.spell []) → blocks (inode_digest root_inode) ≡ Some (inode.spell root_inode) → Some (Directory []) ≡ Some (reads.content (inode_digest root_inode))
root_is blocks reads agrees text is =
    let size = empty_size in
    let over : directory_over blocks root_inode ≡ Some [] =
    ap (option_and_then (of_size directory root_inode.size)) (over_one blocks (directory.spell []) (omega (arith, size)) (omega (arith, size)) text)
    ∙ rw (eq-eqb (length (directory.spell [])) (length (directory.spell [])) refl) (ap result_ok (whole_again directory lawful_directory [] empty_fits)) in
    ap (λ (content : Content). Some content) (sym (directory_is blocks reads (inode_digest root_inode) root_inode [] agrees (inode_held blocks root_inode root_fits is) refl over))

-- ---- the tree

key_test : (a b : ℕ) → is_eq (nat_cmp a b) ≡ (a == b)
key_test a b = grind (arith, nat_tests)

not_one : (i : ℕ) → (i == 1) ≡ false → i ≡ 1 → ⊥
not_one i other one = let clash = sym other ∙ eq-eqb i 1 one in absurd cc

-- what user 0 has, beside the table
pairs_stand : (reads : Reading) (key : List ℕ) (i : ℕ) → (i == 1) ≡ false → Some (Directory []) ≡ Some (reads.content (inode_digest root_inode)) → option_map reads.content (digest_in (first_pairs key) i) ≡ (if i == 2 then Some (Directory []) else None)
pairs_stand reads key i other root =
    elim (cases_eq i 2) [
      | inl two ↦ rw two (sym root)
      | inr neither ↦ rw (key_test 1 i, key_test 2 i, ne_eqb 1 i (λ e. not_one i other (sym e)), ne_eqb 2 i (λ e. neither (sym e)), ne_eqb i 2 neither) refl
    ]

-- what a user has, who is user 0 or isn't
part_stands : (reads : Reading) (key : List ℕ) (i : ℕ) (first : Bool) → (first && (i == 1)) ≡ false → Some (Directory []) ≡ Some (reads.content (inode_digest root_inode))
    → option_map reads.content (digest_in (if first then first_pairs key else []) i) ≡ (if first && (i == 2) then Some (Directory []) else None)
part_stands reads key i true place root = pairs_stand reads key i place root
part_stands reads key i false place root = refl

pub length-table_text : (key : List ℕ) → length key ≡ 56 → length (table_text key) ≡ 68
unfolding table_text be
length-table_text key size = omega (arith, size, length-append key (be w16 0))

abbrev Apart : List ℕ → Type 0
Apart key = NoneCollide (first_texts key) (first_texts key)

-- the texts that stand first among those of the beginning
common : (key : List ℕ) → Contains (first_texts key) (table_text key) × Contains (first_texts key) (inode.spell (table_inode key)) × Contains (first_texts key) (directory.spell []) × Contains (first_texts key) (inode.spell root_inode)
unfolding common_texts
common key = ((0, omega arith, refl), (1, omega arith, refl), (2, omega arith, refl), (3, omega arith, refl))

pub has_table : (key : List ℕ) (blocks : CheckedBlocks) → length key ≡ 56 → blocks ≡ at_first (first_blocks key) → Apart key → (reads : Reading) → Agrees (known_blocks blocks) reads → option_map reads.content (digest_at (first_table 0 key) 1) ≡ Some (File (table_text key))
has_table key blocks size is apart reads agrees =
    let of_first : Agrees (held (first_blocks key)) reads = subst (λ (f : Blocks). Agrees f reads) (ap known_blocks is ∙ known-at_first (first_blocks key)) agrees in
    let there = held_at_first key apart in
    let texts = common key in
    sym (table_is (held (first_blocks key)) reads key (length-table_text key size) of_first (there (table_text key) texts.0) (there (inode.spell (table_inode key)) texts.1))

pub has_genesis : (key : List ℕ) (blocks : CheckedBlocks) → blocks ≡ at_first (first_blocks key) → Apart key → (reads : Reading) → Agrees (known_blocks blocks) reads → (p i : ℕ) → is_table p i ≡ false → option_map reads.content (digest_at (first_table p key) i) ≡ genesis key p i
has_genesis key blocks is apart reads agrees p i place =
    let of_first : Agrees (held (first_blocks key)) reads = subst (λ (f : Blocks). Agrees f reads) (ap known_blocks is ∙ known-at_first (first_blocks key)) agrees in
    let there = held_at_first key apart in
    let texts = common key in
    let root = root_is (held (first_blocks key)) reads of_first (there (directory.spell []) texts.2) (there (inode.spell root_inode) texts.3) in
    rw place (part_stands reads key i (p == 0) place root)
