-- The keys that a seed makes, and keys that are kept.
use Rattle.std.proofs.Common.{◌≡◌, ℕ, zero, suc, ◌+◌, ◌*◌, ◌/◌, ◌%◌, ◌<◌, List, [], ◌++◌, length, take, get_or, map, sym, ap, ◌∙◌, arith}
use Rattle.std.proofs.Math.Seq.{take-add}
use Rattle.std.proofs.lemmas.List.{ext_get_or, take_all}
use Rattle.std.proofs.lemmas.List.FromFn.{get_or-map-range_with_len, length-map-range_with_len}
use Rattle.std.specs.List.{range_with_len}
use Rattle.lms_sign.specs.Hashing.{joined, part}
use Rattle.lms_sign.specs.OneTime.{key_of}
use Rattle.lms_sign.specs.Secret.{HasLeaf, drawn_from, drawn_keys}
use Rattle.lms_sign.proofs.Joining.{joined_more, joined_none, joined_same}

-- 1,024 keys, each of which the seed makes, are those that it makes
pub all_drawn : (seed id : List ℕ) (keys : List (List ℕ)) → length keys ≡ 1024 → ((leaf : ℕ) → leaf < 1024 → get_or keys leaf [] ≡ key_of seed id leaf) → keys ≡ drawn_keys seed id
unfolding drawn_keys
all_drawn seed id keys size are =
    ext_get_or [] keys (map (key_of seed id) (range_with_len 0 1024)) (size ∙ sym (length-map-range_with_len (key_of seed id) 0 1024))
    (λ leaf lt. let small : leaf < 1024 = omega (arith, size) in are leaf small ∙ sym (get_or-map-range_with_len (key_of seed id) 0 1024 leaf leaf [] small (omega arith)))

-- so are those of 128 groups of eight
pub grouped_drawn : (seed id : List ℕ) (keys : List (List ℕ)) (groups : List (List (List ℕ))) → length keys ≡ 1024 → ((group i : ℕ) → group < 128 → i < 8 → get_or keys (8 * group + i) [] ≡ get_or (get_or groups group []) i [])
    → ((group i : ℕ) → group < 128 → i < 8 → get_or (get_or groups group []) i [] ≡ key_of seed id (8 * group + i)) → keys ≡ drawn_keys seed id
grouped_drawn seed id keys groups size put made = all_drawn seed id keys size (λ leaf below.
    let group : ℕ = leaf / 8 in
    let i : ℕ = leaf % 8 in
    let same : 8 * group + i ≡ leaf = omega arith in
    ap (λ n. get_or keys n []) (sym same) ∙ put group i (omega arith) (omega arith) ∙ made group i (omega arith) (omega arith) ∙ ap (key_of seed id) same)

-- each leaf of a key that is drawn can sign
pub drawn_has : (seed id : List ℕ) (leaf : ℕ) → leaf < 1024 → HasLeaf (drawn_from seed id) leaf
unfolding drawn_keys
drawn_has seed id leaf small = get_or-map-range_with_len (key_of seed id) 0 1024 leaf leaf [] small (omega arith)

-- the pieces of 32 bytes, one after another
parts_joined : (bytes : List ℕ) (count : ℕ) → joined count (λ k. part (32 * k) 32 bytes) ≡ take (32 * count) bytes
parts_joined bytes zero = joined_none [] (λ k. part (32 * k) 32 bytes)
parts_joined bytes (suc count) =
    let end : 32 * count + 32 ≡ 32 * suc count = omega arith in
    joined_more count (λ k. part (32 * k) 32 bytes) ∙ ap (λ (l : List ℕ). l ++ part (32 * count) 32 bytes) (parts_joined bytes count)
    ∙ sym (take-add (32 * count) 32 bytes) ∙ ap (λ n. take n bytes) end

-- keys that are read from bytes stand there one after another
pub kept_again : (kept : List ℕ) (keys : List (List ℕ)) → length kept ≡ 32768 → ((leaf : ℕ) → leaf < 1024 → get_or keys leaf [] ≡ part (32 * leaf) 32 kept)
    → joined 1024 (λ leaf. get_or keys leaf []) ≡ kept
kept_again kept keys size are =
    joined_same 1024 (λ leaf. get_or keys leaf []) (λ leaf. part (32 * leaf) 32 kept) are ∙ parts_joined kept 1024 ∙ take_all 32768 kept (omega (arith, size))

-- one key more, written after those before it
pub keys_grown : (was now bytes : List ℕ) (piece : ℕ → List ℕ) (count : ℕ) → take (32 * count + length bytes) now ≡ take (32 * count) was ++ bytes → length bytes ≡ 32 → take (32 * count) was ≡ joined count piece → bytes ≡ piece count
    → take (32 * (count + 1)) now ≡ joined (count + 1) piece
keys_grown was now bytes piece count wrote size before is =
    let end : 32 * (count + 1) ≡ 32 * count + length bytes = omega (arith, size) in
    let next : suc count ≡ count + 1 = omega arith in
    ap (λ n. take n now) end ∙ wrote ∙ ap (λ (l : List ℕ). l ++ bytes) before ∙ ap (λ (l : List ℕ). joined count piece ++ l) is ∙ sym (joined_more count piece) ∙ ap (λ n. joined n piece) next
