-- The words of a line, as a shell reads them (POSIX.1-2017, Shell Command Language, 2.2 and 2.3), without expansions.
use Rattle.std.specs.Prelude.{ℕ, Bool, ◌||◌, ◌==◌, List, [], ◌∷◌, ◌++◌, Option, Some, None, option_map, encode_utf8, if◌then◌else◌}
use Rattle.file_commands.specs.declared.splitting.Place.{Place}
use Rattle.file_commands.specs.declared.splitting.Place.TheVariants.{Between, Comment, Word, Escaped, Single, Double, DoubleEscaped}

abbrev pub is_blank : ℕ → Bool
is_blank c = (c == 0x20) || (c == 0x09)

-- before these a backslash in double quotes is left out: `"`, `$`, `\` and the grave accent
abbrev pub is_escapable : ℕ → Bool
is_escapable c = (c == 0x22) || (c == 0x24) || (c == 0x5c) || (c == 0x60)

-- text comes before the rest of its word
abbrev pub with_text : List ℕ → Option (List (List ℕ)) → Option (List (List ℕ))
with_text text (Some (word ∷ words)) = Some ((text ++ word) ∷ words)
with_text text other = other

abbrev pub before : ℕ → Option (List (List ℕ)) → Option (List (List ℕ))
before c = with_text (encode_utf8 c)

-- What a character outside of quotes does: each quote opens what it ends, a backslash stands before a character that is
-- taken as it is, and every other one is of the word.
abbrev pub unquoted : {X : Type 0} → ℕ → X → X → X → X → X
unquoted c single double escaped word =
    if c == 0x27 then single else (if c == 0x22 then double else (if c == 0x5c then escaped else word))

-- From a place on: the rest of the word that is under way, if one is, and the words after it. There are none where a
-- quote isn't closed, or a backslash is the last character.
abbrev pub split : Place → List ℕ → Option (List (List ℕ))
split Between [] = Some []
split Between (c ∷ rest) =
    if is_blank c then split Between rest
    else (if c == 0x23 then Some []
    else unquoted c (split Single rest) (split Double rest) (split Escaped rest) (before c (split Word rest)))
split Comment rest = Some []
split Word [] = Some ([] ∷ [])
split Word (c ∷ rest) =
    if is_blank c then option_map (λ words. [] ∷ words) (split Between rest)
    else unquoted c (split Single rest) (split Double rest) (split Escaped rest) (before c (split Word rest))
split Escaped [] = None
split Escaped (c ∷ rest) = before c (split Word rest)
split Single [] = None
split Single (c ∷ rest) = if c == 0x27 then split Word rest else before c (split Single rest)
split Double [] = None
split Double (c ∷ rest) =
    if c == 0x22 then split Word rest
    else (if c == 0x5c then split DoubleEscaped rest else before c (split Double rest))
split DoubleEscaped [] = None
split DoubleEscaped (c ∷ rest) =
    if is_escapable c then before c (split Double rest) else before 0x5c (before c (split Double rest))

-- the words of a line
abbrev pub words_in : List ℕ → Option (List (List ℕ))
words_in line = split Between line
