-- The laws of a file laid in blocks.
use Rattle.std.proofs.Common.{◌≡◌, ℕ, zero, suc, ◌*◌, ◌≤◌, List, [], ◌∷◌, ◌++◌, length, take, drop, map, Result, Ok, refl, sym, ap, ◌∙◌, arith}
use Rattle.std.specs.List.{concat}
use Rattle.std.specs.Int.{w8, w16, w32}
use Rattle.std.proofs.lemmas.List.{nil_from_length, take-append-drop, length-map, length-take, length-drop}
use Rattle.layout.specs.declared.error.ReadError.{ReadError}
use Rattle.layout.specs.Format.{whole}
use Rattle.layout.specs.Laws.{in_range_fits, whole_again}
use Rattle.layout.specs.Hash.{hash}
use Rattle.itable.specs.declared.inode.Kind.{Kind}
use Rattle.itable.specs.declared.inode.Kind.TheVariants.{File, Directory}
use Rattle.itable.specs.Inode.{Inode, block_count, inode, kind, size, digests}
use Rattle.itable.specs.InodeLaws.{lawful_inode}
use Rattle.itable.specs.File.{pieces, blocks_of, inode_over, inode_of, AreBlocks, NoneCollide, IsKnown}
use Rattle.itable.proofs.Hashes.{hashes_fit}

-- ---- the blocks

length-pieces : (size count : ℕ) (bytes : List ℕ) → length (pieces size count bytes) ≡ count
unfolding pieces
length-pieces size zero bytes = refl
length-pieces size (suc count) bytes = ap suc (length-pieces size count (drop size bytes))

pieces_joined : (count : ℕ) (bytes : List ℕ) → length bytes ≤ count * 4096 → concat (pieces 4096 count bytes) ≡ bytes
unfolding pieces
pieces_joined zero bytes few = sym (nil_from_length bytes (omega arith))
pieces_joined (suc count) bytes few =
    ap (λ (rest : List ℕ). take 4096 bytes ++ rest) (pieces_joined count (drop 4096 bytes) (omega (arith, length-drop 4096 bytes))) ∙ take-append-drop 4096 bytes

-- the blocks joined are the file
pub joined : (bytes : List ℕ) → concat (blocks_of bytes) ≡ bytes
joined bytes = pieces_joined (block_count (length bytes)) bytes (omega arith)

pieces_are_blocks : (count : ℕ) (bytes : List ℕ) → count ≡ block_count (length bytes) → AreBlocks (pieces 4096 count bytes)
unfolding pieces
pieces_are_blocks zero bytes is = tt
pieces_are_blocks (suc zero) bytes is = (omega (arith, length-take 4096 bytes), omega (arith, length-take 4096 bytes))
pieces_are_blocks (suc (suc count)) bytes is = (omega (arith, length-take 4096 bytes), pieces_are_blocks (suc count) (drop 4096 bytes) (omega (arith, length-drop 4096 bytes)))

pub are_blocks : (bytes : List ℕ) → AreBlocks (blocks_of bytes)
are_blocks bytes = pieces_are_blocks (block_count (length bytes)) bytes refl

-- ---- the i-node

kind_fits : (k : Kind) → kind.Fits k
kind_fits File = in_range_fits w8 1 2 1 (omega arith) (omega arith) (omega arith)
kind_fits Directory = in_range_fits w8 1 2 2 (omega arith) (omega arith) (omega arith)

digests_fit : (bytes : List ℕ) → length bytes ≤ 4194304 → (digests (block_count (length bytes))).Fits (map hash (blocks_of bytes))
digests_fit bytes few =
    let count : length (map hash (blocks_of bytes)) ≡ block_count (length bytes) = length-map (blocks_of bytes) hash ∙ length-pieces 4096 (block_count (length bytes)) bytes in
    (in_range_fits w16 (block_count (length bytes)) (block_count (length bytes)) (length (map hash (blocks_of bytes))) (omega arith) (omega arith) (omega arith), (refl, hashes_fit _ (blocks_of bytes)))

pub inode_fits : (k : Kind) (bytes : List ℕ) → (size k).Fits (length bytes) → length bytes ≤ 4194304 → inode.Fits (inode_over k bytes)
inode_fits k bytes fits few = (kind_fits k, (fits, digests_fit bytes few))

pub file_fits : (file : List ℕ) → length file ≤ 4194304 → inode.Fits (inode_of file)
file_fits file few = inode_fits File file (in_range_fits w32 0 4194304 (length file) (omega arith) (omega arith) few) few

-- its text reads as it
pub reads_again : (file : List ℕ) → length file ≤ 4194304 → whole inode (inode.spell (inode_of file)) ≡ Ok (inode_of file)
reads_again file few = whole_again inode lawful_inode (inode_of file) (file_fits file few)

-- ---- one file an i-node

fewer_collide : (b c : List ℕ) (bs cs : List (List ℕ)) → NoneCollide (b ∷ bs) (c ∷ cs) → NoneCollide bs cs
fewer_collide b c bs cs apart x y (k, lt, is) (j, low, at) = apart x y (suc k, omega arith, is) (suc j, omega arith, at)

same_blocks : (bs cs : List (List ℕ)) → NoneCollide bs cs → map hash cs ≡ map hash bs → cs ≡ bs
same_blocks [] [] apart same = refl
same_blocks [] (c ∷ cs) apart same = absurd cc
same_blocks (b ∷ bs) [] apart same = absurd cc
same_blocks (b ∷ bs) (c ∷ cs) apart same =
    let first : hash b ≡ hash c = cc in
    let others : map hash cs ≡ map hash bs = cc in
    let here : b ≡ c = apart b c (0, omega arith, refl) (0, omega arith, refl) first in
    ap (λ (x : List ℕ). x ∷ cs) (sym here) ∙ ap (λ (xs : List (List ℕ)). b ∷ xs) (same_blocks bs cs (fewer_collide b c bs cs apart) others)

abbrev done : Inode → Result Inode ReadError
done x = Ok x

ok_is : (x y : Inode) → done x ≡ done y → x ≡ y
ok_is x y e = cc

pub known : (file : List ℕ) → length file ≤ 4194304 → IsKnown file
known file few other short apart same =
    let inodes : inode_of other ≡ inode_of file = ok_is (inode_of other) (inode_of file) (sym (reads_again other short) ∙ ap (whole inode) same ∙ reads_again file few) in
    let blocks = same_blocks (blocks_of file) (blocks_of other) apart (ap (λ (i : Inode). i.blocks) inodes) in
    sym (joined other) ∙ ap concat blocks ∙ joined file
