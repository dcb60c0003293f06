-- Nobody has to believe this file: an aid of private contracts.
-- The words of a line, of which a part was read.
use Rattle.std.specs.Prelude.{◌≡◌, ℕ, List, [], ◌∷◌, ◌++◌, map, Option, option_map, string_bytes}
use Rattle.file_commands.specs.Splitting.{split}
use Rattle.file_commands.specs.declared.splitting.Place.{Place}
use Rattle.file_commands.specs.declared.splitting.Place.TheVariants.{Between, Comment, Word}
use Rattle.file_commands.specs.declared.splitting.Splitting.{Splitting}

-- the word's beginning comes before what is left of it
abbrev pub after : List ℕ → List (List ℕ) → List (List ℕ)
after word [] = []
after word (rest ∷ words) = (word ++ rest) ∷ words

-- what comes from a place on, after the word that is under way there
abbrev pub goes_on : Place → List ℕ → List (List ℕ) → List (List ℕ)
goes_on Between word later = later
goes_on Comment word later = later
goes_on place word later = after word later

-- all words of a line, from the words before a place, the one that is under way there, and what comes from there on
abbrev pub joined : Place → List (List ℕ) → List ℕ → Option (List (List ℕ)) → Option (List (List ℕ))
joined place words word = option_map (λ later. words ++ goes_on place word later)

-- all words of the line, of which this is left
abbrev pub gathered : Splitting → List ℕ → Option (List (List ℕ))
gathered s rest = joined s.place (map string_bytes s.words.items) (string_bytes s.word) (split s.place rest)

-- between words none is under way
abbrev pub IsSound : Splitting → Type 0
IsSound s = s.place ≡ Between → string_bytes s.word ≡ []

-- a character was read
pub record Reads (old : Splitting) (c : ℕ) (new : Splitting) : Type 0 where
  pub sound : IsSound new
  pub same : (rest : List ℕ) → gathered old (c ∷ rest) ≡ gathered new rest

-- a character was read outside of quotes, where a word is under way or begins
pub record Begins (old : Splitting) (c : ℕ) (new : Splitting) : Type 0 where
  pub sound : IsSound new
  pub same : (rest : List ℕ) → gathered (record old { place = Word }) (c ∷ rest) ≡ gathered new rest

-- these bytes are of the word
pub record Keeps (old : Splitting) (bytes : List ℕ) (there : Place) (new : Splitting) : Type 0 where
  pub words : new.words ≡ old.words
  pub word : string_bytes new.word ≡ string_bytes old.word ++ bytes
  pub place : new.place ≡ there
