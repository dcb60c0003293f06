-- Texts of blocks one after another.
use Rattle.std.proofs.Common.{◌≡◌, ℕ, suc, ◌+◌, ◌<◌, ◌≤◌, List, [], ◌∷◌, ◌++◌, length, drop, Option, Some, None, refl, sym, ap, ◌∙◌, append_assoc, add-one, drop-cons}
use Rattle.std.specs.Prelude.{slice_index_or}
use Rattle.std.proofs.lemmas.List.{append-nil, drop_all}
use Rattle.std.specs.Option.{option_map}
use Rattle.tree_parts.specs.Blocks.{Blocks, joined}

-- what is joined already, and the rest after it
abbrev pub onto : List ℕ → Option (List ℕ) → Option (List ℕ)
onto old rest = option_map (λ more. old ++ more) rest

onto_onto : (old text : List ℕ) (rest : Option (List ℕ)) → onto (old ++ text) rest ≡ onto old (onto text rest)
onto_onto old text None = refl
onto_onto old text (Some more) = ap (λ (all : List ℕ). Some all) (append_assoc old text more)

-- the blocks from a place on begin with the one there
at_place : (ds : List (List ℕ)) (i : ℕ) (d : List ℕ) → i < length ds → d ≡ slice_index_or ds i d → drop i ds ≡ d ∷ drop (i + 1) ds
at_place ds i d inside is = rw add-one (drop-cons ds i d inside ∙ ap (λ (x : List ℕ). x ∷ drop (suc i) ds) (sym is))

joined_one : (blocks : Blocks) (text d : List ℕ) (ds : List (List ℕ)) → blocks d ≡ Some text → joined blocks (d ∷ ds) ≡ onto text (joined blocks ds)
unfolding joined
joined_one blocks text d ds held = rw held refl

joined_none : (blocks : Blocks) (d : List ℕ) (ds : List (List ℕ)) → blocks d ≡ None → joined blocks (d ∷ ds) ≡ None
unfolding joined
joined_none blocks d ds none = rw none refl

-- one block more
pub joined_next : (blocks : Blocks) (old new text d : List ℕ) (ds : List (List ℕ)) (i : ℕ) (all : Option (List ℕ)) → i < length ds → d ≡ slice_index_or ds i d → blocks d ≡ Some text → new ≡ old ++ text → onto old (joined blocks (drop i ds)) ≡ all → onto new (joined blocks (drop (i + 1) ds)) ≡ all
joined_next blocks old new text d ds i all inside at held is whole =
    let one = ap (joined blocks) (at_place ds i d inside at) ∙ joined_one blocks text d (drop (i + 1) ds) held in
    ap (λ (front : List ℕ). onto front (joined blocks (drop (i + 1) ds))) is ∙ onto_onto old text (joined blocks (drop (i + 1) ds)) ∙ ap (onto old) (sym one) ∙ whole

-- one that isn't held
pub joined_lacks : (blocks : Blocks) (old d : List ℕ) (ds : List (List ℕ)) (i : ℕ) (all : Option (List ℕ)) → i < length ds → d ≡ slice_index_or ds i d → blocks d ≡ None → onto old (joined blocks (drop i ds)) ≡ all → None ≡ all
joined_lacks blocks old d ds i all inside at none whole =
    let one = ap (joined blocks) (at_place ds i d inside at) ∙ joined_none blocks d (drop (i + 1) ds) none in
    sym (ap (onto old) one) ∙ whole

-- none of them
pub joined_end : (blocks : Blocks) → joined blocks [] ≡ Some []
unfolding joined
joined_end blocks = refl

-- all of them
pub joined_all : (blocks : Blocks) (old : List ℕ) (ds : List (List ℕ)) (i : ℕ) (all : Option (List ℕ)) → length ds ≤ i → onto old (joined blocks (drop i ds)) ≡ all → Some old ≡ all
joined_all blocks old ds i all past whole =
    let one = ap (joined blocks) (drop_all i ds past) ∙ joined_end blocks in
    ap (λ (text : List ℕ). Some text) (sym (append-nil old)) ∙ sym (ap (onto old) one) ∙ whole
