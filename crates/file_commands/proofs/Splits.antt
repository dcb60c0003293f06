-- The words of a line, a character after another.
use Rattle.std.proofs.Common.{◌≡◌, ◌∙◌, ◌==◌, ℕ, true, false, List, [], ◌∷◌, ◌++◌, map, Option, Some, None, refl, sym, ap, subst, append_assoc}
use Rattle.std.specs.Prelude.{option_map, string_bytes, encode_utf8}
use Rattle.std.proofs.lemmas.List.{append-nil}
use Rattle.file_commands.specs.Splitting.{before, is_blank, is_escapable, split, with_text}
use Rattle.file_commands.specs.Gathering.{Begins, Keeps, Reads, joined}
use Rattle.file_commands.specs.declared.splitting.Place.{Place}
use Rattle.file_commands.specs.declared.splitting.Place.TheVariants.{Between, Comment, Word, Escaped, Single, Double, DoubleEscaped}
use Rattle.file_commands.specs.declared.splitting.Splitting.{Splitting}

-- ---- a word begins, and is whole

nothing_before : (words : List (List ℕ)) (r : Option (List (List ℕ))) → joined Between words [] r ≡ joined Word words [] r
nothing_before words None = refl
nothing_before words (Some []) = refl
nothing_before words (Some (w ∷ ws)) = refl

pub word_begins : (place : Place) (words : List (List ℕ)) (word : List ℕ) (c : ℕ) (rest : List ℕ)
    → place ≡ Between → word ≡ [] → is_blank c ≡ false → (c == 0x23) ≡ false
    → joined place words word (split place (c ∷ rest)) ≡ joined Word words word (split Word (c ∷ rest))
word_begins place words word c rest at none plain other = rw (at, none, plain, other) (nothing_before words _)

whole : (words more : List (List ℕ)) (word : List ℕ) (later : List (List ℕ)) → more ≡ words ++ word ∷ []
    → words ++ ((word ++ []) ∷ later) ≡ more ++ later
whole words more word later is =
    ap (λ w. words ++ (w ∷ later)) (append-nil word) ∙ sym (append_assoc words (word ∷ []) later) ∙ ap (λ ws. ws ++ later) (sym is)

ended : (words more : List (List ℕ)) (word none : List ℕ) (r : Option (List (List ℕ))) → more ≡ words ++ word ∷ []
    → joined Word words word (option_map (λ later. [] ∷ later) r) ≡ joined Between more none r
ended words more word none None is = refl
ended words more word none (Some later) is = ap Some (whole words more word later is)

pub word_ends : (place : Place) (words more : List (List ℕ)) (word none : List ℕ) (c : ℕ) (rest : List ℕ)
    → place ≡ Word → is_blank c ≡ true → more ≡ words ++ word ∷ []
    → joined place words word (split place (c ∷ rest)) ≡ joined Between more none (split Between rest)
word_ends place words more word none c rest at blank is = rw (at, blank) (ended words more word none (split Between rest) is)

-- ---- text is of the word

glued : (words : List (List ℕ)) (word text : List ℕ) (r : Option (List (List ℕ)))
    → joined Word words word (with_text text r) ≡ joined Word words (word ++ text) r
glued words word text None = refl
glued words word text (Some []) = refl
glued words word text (Some (w ∷ ws)) = ap (λ x. Some (words ++ (x ∷ ws))) (sym (append_assoc word text w))

-- a place in a word
abbrev IsWithin : Place → Type 0
IsWithin Between = ⊥
IsWithin Comment = ⊥
IsWithin other = Unit {0}

within : (place : Place) (words : List (List ℕ)) (word : List ℕ) (r : Option (List (List ℕ))) → IsWithin place
    → joined place words word r ≡ joined Word words word r
within Between words word r is = absurd is
within Comment words word r is = absurd is
within Word words word r is = refl
within Escaped words word r is = refl
within Single words word r is = refl
within Double words word r is = refl
within DoubleEscaped words word r is = refl

not_between : (place : Place) → IsWithin place → place ≡ Between → ⊥
not_between Between within is = within
not_between Comment within is = within
not_between Word within is = cc
not_between Escaped within is = cc
not_between Single within is = cc
not_between Double within is = cc
not_between DoubleEscaped within is = cc

-- text is of the word from one place to another, where what is left is split so
kept : (old new : Splitting) (text : List ℕ) (there : Place) (r later : Option (List (List ℕ))) → IsWithin old.place → IsWithin there
    → r ≡ with_text text later → Keeps old text there new
    → joined old.place (map string_bytes old.words.items) (string_bytes old.word) r
    ≡ joined new.place (map string_bytes new.words.items) (string_bytes new.word) later
kept old new text there r later before_in after_in is k =
    let words = map string_bytes old.words.items in
    let word = string_bytes old.word in
    within old.place words word r before_in
    ∙ ap (joined Word words word) is
    ∙ glued words word text later
    ∙ sym (within there words (word ++ text) later after_in)
    ∙ (λ i. joined (sym k.place i) (map string_bytes (sym (ap (λ ws. ws.items) k.words) i)) (sym k.word i) later)

pub reads_kept : (old new : Splitting) (c : ℕ) (text : List ℕ) (here there : Place) → old.place ≡ here → IsWithin here → IsWithin there
    → ((rest : List ℕ) → split here (c ∷ rest) ≡ with_text text (split there rest)) → Keeps old text there new → Reads old c new
reads_kept old new c text here there at before_in after_in steps k = record {
  sound = λ is. absurd (not_between there after_in (sym k.place ∙ is));
  same = λ rest.
      kept old new text there (split old.place (c ∷ rest)) (split there rest) (subst IsWithin (sym at) before_in) after_in
      ((λ i. split (at i) (c ∷ rest)) ∙ steps rest) k
      ∙ (λ i. joined new.place (map string_bytes new.words.items) (string_bytes new.word) (split (sym k.place i) rest));
}

pub begins_kept : (old new : Splitting) (c : ℕ) → is_blank c ≡ false → (c == 0x27) ≡ false → (c == 0x22) ≡ false → (c == 0x5c) ≡ false
    → Keeps old (encode_utf8 c) Word new → Begins old c new
begins_kept old new c plain single double backslash k = record {
  sound = λ is. absurd (not_between Word tt (sym k.place ∙ is));
  same = λ rest.
      kept (record old { place = Word }) new (encode_utf8 c) Word (split Word (c ∷ rest)) (split Word rest) tt tt
      (rw (plain, single, double, backslash) refl) (record { words = k.words; word = k.word; place = k.place })
      ∙ (λ i. joined new.place (map string_bytes new.words.items) (string_bytes new.word) (split (sym k.place i) rest));
}

-- a backslash that quotes nothing, and the character after it
pub reads_both : (old between new : Splitting) (c : ℕ) → old.place ≡ DoubleEscaped → is_escapable c ≡ false
    → Keeps old (encode_utf8 0x5c) Double between → Keeps between (encode_utf8 c) Double new → Reads old c new
reads_both old between new c at plain one two = record {
  sound = λ is. absurd (not_between Double tt (sym two.place ∙ is));
  same = λ rest.
      kept old between (encode_utf8 0x5c) Double (split old.place (c ∷ rest)) (before c (split Double rest))
      (subst IsWithin (sym at) tt) tt ((λ i. split (at i) (c ∷ rest)) ∙ (rw plain refl)) one
      ∙ kept between new (encode_utf8 c) Double (before c (split Double rest)) (split Double rest)
      (subst IsWithin (sym one.place) tt) tt refl two
      ∙ (λ i. joined new.place (map string_bytes new.words.items) (string_bytes new.word) (split (sym two.place i) rest));
}
