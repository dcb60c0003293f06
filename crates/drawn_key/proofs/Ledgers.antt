-- The marks of a ledger's file.
use Rattle.std.proofs.Common.{◌≡◌, ◌≢◌, ℕ, ◌+◌, ◌-◌, ◌<◌, true, false, not, ◌==◌, List, length, take, drop, get_or, sym, ap, subst, ◌∙◌, arith}
use Rattle.std.proofs.lemmas.Bool.Decides.{nat_tests}
use Rattle.std.proofs.lemmas.List.{get_or-drop, length-drop, take_all}
use Rattle.lms_sign.specs.Secret.{HasLeaf, Secret}
use Rattle.leaf_ledger.specs.Ledger.{IsLeastFree, is_used}

is_zero : (n : ℕ) → not (n == 0) ≡ false → n ≡ 0
is_zero n free = grind (arith, nat_tests)

is_some : (n : ℕ) → not (n == 0) ≡ true → n ≢ 0
is_some n used none = let two : true ≡ false = sym used ∙ ap (λ (x : ℕ). not (x == 0)) none in cc two

unused : (file : List ℕ) (leaf : ℕ) → is_used file leaf ≡ false → get_or (drop 56 file) leaf 0 ≡ 0
unused file leaf free = get_or-drop 56 file leaf 0 ∙ is_zero (get_or file (56 + leaf) 0) free

used : (file : List ℕ) (leaf : ℕ) → is_used file leaf ≡ true → get_or (drop 56 file) leaf 0 ≢ 0
used file leaf is none = is_some (get_or file (56 + leaf) 0) is (sym (get_or-drop 56 file leaf 0) ∙ none)

-- a leaf that is the first with a mark 0 is the least free one
pub next_has : (secret : Secret) (file : List ℕ) (next : ℕ)
    → ((leaf : ℕ) → leaf < 1024 → get_or (take (length file - 56) (drop 56 file)) leaf 0 ≡ 0 → ((i : ℕ) → i < leaf → get_or (take (length file - 56) (drop 56 file)) i 0 ≢ 0) → next ≡ leaf)
    → HasLeaf secret next → (leaf : ℕ) → IsLeastFree file leaf → HasLeaf secret leaf
next_has secret file next told has leaf is =
    let all : take (length file - 56) (drop 56 file) ≡ drop 56 file = take_all (length file - 56) (drop 56 file) (omega (arith, length-drop 56 file)) in
    let at : (i : ℕ) → get_or (take (length file - 56) (drop 56 file)) i 0 ≡ get_or (drop 56 file) i 0 = λ i. ap (λ (l : List ℕ). get_or l i 0) all in
    subst (λ n. HasLeaf secret n) (told leaf is.below (at leaf ∙ unused file leaf is.free) (λ i lt none. used file i (is.least i lt) (sym (at i) ∙ none))) has
