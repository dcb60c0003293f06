-- The last of the names of a path.
use Rattle.std.proofs.Common.{◌≡◌, List, [], ◌∷◌, refl, sym, ap, ◌∙◌}
use Rattle.layout.specs.Types.{Bytes}
use Rattle.file_session.specs.Parts.{last_of as last_name_of}

-- the last of a name and those after it
pub last_after : Bytes → List Bytes → Bytes
last_after name [] = name
last_after name (next ∷ names) = last_after next names

last_is : (name : Bytes) (names : List Bytes) → last_name_of (name ∷ names) ≡ last_after name names
unfolding last_after
last_is name [] = refl
last_is name (next ∷ names) = last_is next names

pub last_from_none : (names : List Bytes) → last_name_of names ≡ last_after [] names
unfolding last_after
last_from_none [] = refl
last_from_none (name ∷ names) = last_is name names

pub last_from : (name : Bytes) (names left : List Bytes) → names ≡ name ∷ left → last_name_of names ≡ last_after name left
last_from name names left is = ap last_name_of is ∙ last_is name left

pub last_on : (here name : Bytes) (left rest all : List Bytes) → last_name_of all ≡ last_after here left → left ≡ name ∷ rest → last_name_of all ≡ last_after name rest
unfolding last_after
last_on here name left rest all before is = before ∙ ap (last_after here) is

pub last_end : (here : Bytes) (left all : List Bytes) → last_name_of all ≡ last_after here left → left ≡ [] → here ≡ last_name_of all
unfolding last_after
last_end here left all before is = sym (before ∙ ap (last_after here) is)

pub last_first : (names all left : List Bytes) (last : Bytes) → all ≡ names → all ≡ last ∷ left → last_name_of names ≡ last_after last left
last_first names all left last same is = last_from last names left (sym same ∙ is)
