-- The blocks of a message, one after another.
use Rattle.std.proofs.Common.{◌≡◌, ℕ, zero, suc, ◌+◌, ◌-◌, ◌*◌, ◌/◌, ◌≤◌, List, ◌++◌, length, take, drop, slice_index, ap, ◌∙◌, refl, arith}
use Rattle.std.proofs.lemmas.List.{drop-take, drop-drop, take-take, drop-append-le, take-append-le, length-append, length-drop, drop_at, take_all}
use Rattle.std.specs.Int.{to_be_bytes, w32}
use Rattle.sha2.specs.Sha256.{compress, digest_bytes, hash_after, padded_message, padding}
use Rattle.sha256_lanes.specs.Lanes.{part}

-- a block of a part of a text
pub block_of_part : (text : List ℕ) (at n size : ℕ) → n * 64 + 64 ≤ size → take 64 (drop (n * 64) (part at size text)) ≡ part (at + n * 64) 64 text
block_of_part text at n size le =
    let rest : ℕ = size - n * 64 in
    let all : size ≡ n * 64 + rest = omega arith in
    ap (λ m. take 64 (drop (n * 64) (take m (drop at text)))) all ∙ ap (take 64) (drop-take (n * 64) rest (drop at text))
    ∙ take-take 64 rest (drop (n * 64) (drop at text)) (omega arith) ∙ ap (take 64) (drop-drop (n * 64) at text)

-- one more block
pub hashed_more : (h p : List ℕ) (n : ℕ) → hash_after h p (n + 1) ≡ compress (hash_after h p n) (take 64 (drop (n * 64) p))
unfolding hash_after
hashed_more h p n =
    let next : n + 1 ≡ suc n = omega arith in
    ap (hash_after h p) next

pub hashed_none : (h p : List ℕ) → hash_after h p 0 ≡ h
unfolding hash_after
hashed_none h p = refl

-- what stands after its blocks makes no difference
pub hashed_before : (h p rest : List ℕ) (n : ℕ) → n * 64 ≤ length p → hash_after h (p ++ rest) n ≡ hash_after h p n
unfolding hash_after
hashed_before h p rest zero le = refl
hashed_before h p rest (suc n) le =
    let same : take 64 (drop (n * 64) (p ++ rest)) ≡ take 64 (drop (n * 64) p) =
    ap (take 64) (drop-append-le (n * 64) p rest (omega arith)) ∙ take-append-le 64 (drop (n * 64) p) rest (omega (arith, length-drop (n * 64) p)) in
    rw (hashed_before h p rest n (omega arith), same) refl

-- one more word of a digest
pub digest_more : (h : List ℕ) (n : ℕ) → digest_bytes h (n + 1) ≡ digest_bytes h n ++ to_be_bytes w32 (slice_index h n)
unfolding digest_bytes
digest_more h n =
    let next : n + 1 ≡ suc n = omega arith in
    ap (digest_bytes h) next

-- a message that ends with a block, and its padding, which is a block
pub hashed_whole : (h m block : List ℕ) (n : ℕ) → length m ≡ n * 64 → block ≡ padding (length m) → length block ≡ 64
    → compress (hash_after h m n) block ≡ hash_after h (padded_message m) (length (padded_message m) / 64)
hashed_whole h m block n size is width =
    let padded : m ++ block ≡ padded_message m = ap (λ (l : List ℕ). m ++ l) is in
    let count : length (m ++ block) / 64 ≡ n + 1 = omega (arith, length-append m block) in
    let last : take 64 (drop (n * 64) (m ++ block)) ≡ block = ap (take 64) (drop_at m block (n * 64) size) ∙ take_all 64 block (omega arith) in
    rw (← padded, count, hashed_more h (m ++ block) n, last, hashed_before h m block n (omega arith)) refl
