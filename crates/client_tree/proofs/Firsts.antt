-- Blocks that are kept one after another.
use Rattle.std.proofs.Common.{◌≡◌, ℕ, zero, suc, ◌+◌, List, [], ◌∷◌, ◌++◌, refl, sym, ap, ◌∙◌, arith, append_assoc, add-one}
use Rattle.std.specs.List.{flat_map, range_with_len}
use Rattle.std.proofs.lemmas.Grind.{flat_map-append}
use Rattle.std.proofs.lemmas.List.{append-nil}
use Rattle.client_tree.specs.Held.{Block, keeping, keeping_all}

pub kept_after : (old new before : List Block) (text same : List ℕ) → new ≡ keeping old text → old ≡ before → text ≡ same → new ≡ keeping before same
kept_after old new before text same kept is spells = kept ∙ ap (λ (b : List Block). keeping b text) is ∙ ap (keeping before) spells

pub all_kept_after : (old new before : List Block) (texts same : List (List ℕ)) → new ≡ keeping_all old texts → old ≡ before → texts ≡ same → new ≡ keeping_all before same
all_kept_after old new before texts same kept is spells = kept ∙ ap (λ (b : List Block). keeping_all b texts) is ∙ ap (keeping_all before) spells

keeping_append : (blocks : List Block) (xs ys : List (List ℕ)) → keeping_all blocks (xs ++ ys) ≡ keeping_all (keeping_all blocks xs) ys
unfolding keeping_all
keeping_append blocks [] ys = refl
keeping_append blocks (x ∷ xs) ys = keeping_append (keeping blocks x) xs ys

range_more : (a n : ℕ) → range_with_len a (suc n) ≡ range_with_len a n ++ (a + n) ∷ []
range_more a zero = let same : a + 0 ≡ a = omega arith in ap (λ (k : ℕ). k ∷ []) (sym same)
range_more a (suc n) =
    let same : a + 1 + n ≡ a + suc n = omega arith in
    let rest : range_with_len (a + 1) (suc n) ≡ range_with_len (a + 1) n ++ (a + 1 + n) ∷ [] = range_more (a + 1) n in
    ap (λ (xs : List ℕ). a ∷ xs) (rest ∙ ap (λ (k : ℕ). range_with_len (a + 1) n ++ k ∷ []) same)

next_first : (n : ℕ) → range_with_len 0 (n + 1) ≡ range_with_len 0 n ++ n ∷ []
next_first n = let same : 0 + n ≡ n = omega arith in rw add-one (range_more 0 n ∙ ap (λ (k : ℕ). range_with_len 0 n ++ k ∷ []) same)

-- none yet
pub none_first : (key : List ℕ) (blocks : List Block) (texts : List (List ℕ)) (f : ℕ → List (List ℕ)) → blocks ≡ keeping_all [] texts → blocks ≡ keeping_all [] (texts ++ flat_map f (range_with_len 0 0))
none_first key blocks texts f is = is ∙ ap (keeping_all []) (sym (append-nil texts))

-- one principal's more
pub one_first : (f : ℕ → List (List ℕ)) (old new : List Block) (texts more : List (List ℕ)) (n : ℕ) → new ≡ keeping_all old more → more ≡ f n → old ≡ keeping_all [] (texts ++ flat_map f (range_with_len 0 n))
    → new ≡ keeping_all [] (texts ++ flat_map f (range_with_len 0 (n + 1)))
one_first f old new texts more n kept is so_far =
    let so_many : flat_map f (range_with_len 0 (n + 1)) ≡ flat_map f (range_with_len 0 n) ++ f n = ap (flat_map f) (next_first n) ∙ flat_map-append f (range_with_len 0 n) (n ∷ []) ∙ ap (λ (xs : List (List ℕ)). flat_map f (range_with_len 0 n) ++ xs) (append-nil (f n)) in
    all_kept_after old new (keeping_all [] (texts ++ flat_map f (range_with_len 0 n))) more (f n) kept so_far is
    ∙ sym (keeping_append [] (texts ++ flat_map f (range_with_len 0 n)) (f n))
    ∙ ap (keeping_all []) (append_assoc texts (flat_map f (range_with_len 0 n)) (f n) ∙ ap (λ (xs : List (List ℕ)). texts ++ xs) (sym so_many))
