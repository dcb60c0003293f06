-- Digests of texts, in order, and whole blocks one after another.
use Rattle.std.proofs.Common.{◌≡◌, ℕ, zero, suc, ◌+◌, ◌*◌, ◌<◌, ◌==◌, true, List, [], ◌∷◌, ◌++◌, length, take, drop, map, refl, sym, ap, ◌∙◌, arith, length-append, append_assoc}
use Rattle.std.specs.Prelude.{slice_index_or}
use Rattle.std.specs.List.{flat_map, list_all}
use Rattle.layout.specs.Hash.{hash}
use Rattle.std.specs.Vec.{vec_items}
use Rattle.std.specs.declared.vec.Vec.{Vec}
use Rattle.std.proofs.lemmas.Bool.{and_parts, eqb-true}
use Rattle.std.proofs.lemmas.List.{take_at, drop_at, drop-drop}

-- one more of what is made in order
pub one_on : {X : Type 0} (old new : List X) (x : X) (rest all : List X) → new ≡ old ++ x ∷ [] → old ++ x ∷ rest ≡ all → new ++ rest ≡ all
one_on {X} old new x rest all is whole = ap (λ (front : List X). front ++ rest) is ∙ append_assoc old (x ∷ []) rest ∙ whole

-- the digest at a place is that of the text there
pub digest_there : {A : Type 0} (texts : List (Vec ℕ A)) (place : ℕ) (digest : List ℕ) (text : Vec ℕ A) → place < length texts
    → digest ≡ slice_index_or (map hash (map vec_items texts)) place digest → text ≡ slice_index_or texts place text → digest ≡ hash text.items
digest_there [] place digest text few of_digest of_text = absurd (omega arith)
digest_there {A} (t ∷ ts) zero digest text few of_digest of_text = of_digest ∙ ap (λ (x : Vec ℕ A). hash x.items) (sym of_text)
digest_there (t ∷ ts) (suc place) digest text few of_digest of_text = digest_there ts place digest text (omega arith) of_digest of_text

-- each is a whole block
abbrev pub AreWhole : {A : Type 0} → List (Vec ℕ A) → Type 0
AreWhole texts = list_all (λ text. length (vec_items text) == 4096) texts ≡ true

-- the first is one, and so are the others
first_whole : {A : Type 0} (text : Vec ℕ A) (texts : List (Vec ℕ A)) → AreWhole (text ∷ texts) → (length text.items ≡ 4096) × AreWhole texts
first_whole text texts all =
    let both = and_parts (length text.items == 4096) (list_all (λ t. length (vec_items t) == 4096) texts) all in
    (eqb-true (length text.items) 4096 both.0, both.1)

-- together they have so many bytes
pub whole_length : {A : Type 0} (texts : List (Vec ℕ A)) → AreWhole texts → length (flat_map vec_items texts) ≡ 4096 * length texts
whole_length [] all = refl
whole_length (text ∷ texts) all =
    let first = first_whole text texts all in
    let rest = whole_length texts first.1 in
    let both = length-append text.items (flat_map vec_items texts) in
    omega (arith, both, first.0, rest)

-- the text at a place stands after those before it
pub next_whole : {A : Type 0} (texts : List (Vec ℕ A)) (i : ℕ) → AreWhole texts → i < length texts → drop i (map vec_items texts) ≡ take 4096 (drop (4096 * i) (flat_map vec_items texts)) ∷ drop (i + 1) (map vec_items texts)
next_whole [] i all few = absurd (omega arith)
next_whole (text ∷ texts) zero all few =
    let first = first_whole text texts all in
    ap (λ (t : List ℕ). t ∷ map vec_items texts) (sym (take_at text.items (flat_map vec_items texts) 4096 first.0))
next_whole (text ∷ texts) (suc i) all few =
    let first = first_whole text texts all in
    let bytes : List ℕ = text.items ++ flat_map vec_items texts in
    let past : drop (4096 * suc i) bytes ≡ drop (4096 * i) (flat_map vec_items texts) =
    ap (λ (n : ℕ). drop n bytes) (omega arith) ∙ sym (drop-drop (4096 * i) 4096 bytes) ∙ ap (drop (4096 * i)) (drop_at text.items (flat_map vec_items texts) 4096 first.0) in
    let one : suc i + 1 ≡ suc (i + 1) = omega arith in
    let after : drop (suc i + 1) (text.items ∷ map vec_items texts) ≡ drop (i + 1) (map vec_items texts) = ap (λ (n : ℕ). drop n (text.items ∷ map vec_items texts)) one in
    next_whole texts i first.1 (omega arith)
    ∙ ap (λ (l : List ℕ). take 4096 l ∷ drop (i + 1) (map vec_items texts)) (sym past)
    ∙ ap (λ (d : List (List ℕ)). take 4096 (drop (4096 * suc i) bytes) ∷ d) (sym after)
