-- What names are, for proofs.
use Rattle.std.proofs.Common.{◌≡◌, ℕ, ◌≤◌, true, false, List, length, refl, arith}
use Rattle.std.specs.Int.{w8}
use Rattle.std.specs.Str.{IsUtf8}
use Rattle.std.proofs.lemmas.Bool.{and_parts, and_from, and_right, and_left, leb-true, false_from_ne_true}
use Rattle.std.proofs.lemmas.Str.{is_utf8-from_IsUtf8, IsUtf8-from_is_utf8}
use Rattle.layout.specs.Format.{IsBytes}
use Rattle.layout.specs.Laws.{in_range_fits}
use Rattle.directory.specs.Name.{is_allowed, is_name, name}

pub is_name-of_text : (bytes : List ℕ) → IsUtf8 bytes → is_allowed bytes ≡ true → is_name bytes ≡ true
unfolding is_name
is_name-of_text bytes text allowed = and_from _ _ (is_utf8-from_IsUtf8 bytes text) allowed

pub is_name-not_allowed : (bytes : List ℕ) → is_allowed bytes ≡ false → is_name bytes ≡ false
unfolding is_name
is_name-not_allowed bytes not_allowed = and_right _ _ not_allowed

-- what is no text is no name
pub is_name-no_text : (bytes : List ℕ) → ¬ (IsUtf8 bytes) → is_name bytes ≡ false
unfolding is_name
is_name-no_text bytes no_text = and_left _ _ (false_from_ne_true _ (λ utf8. no_text (IsUtf8-from_is_utf8 bytes utf8)))

pub ruleset name_tests = (is_name-of_text, is_name-not_allowed, is_name-no_text)

-- a name has 255 bytes at most
pub length_name : (bytes : List ℕ) → is_name bytes ≡ true → length bytes ≤ 255
unfolding is_name
length_name bytes is = leb-true _ _ (and_parts _ _ (and_parts _ _ (and_parts _ _ (and_parts _ _ is).1).0).0).1

-- bytes that are a name fit its text
pub fits_name : (bytes : List ℕ) → IsBytes bytes → is_name bytes ≡ true → name.Fits bytes
fits_name bytes all is = ((in_range_fits w8 0 255 (length bytes) (omega (arith, length_name bytes is)) (omega arith) (length_name bytes is), (refl, all)), is)
