-- Paths: `/a/b` leads from the root directory through names, and `@p:i/a/b` from what stands at the i-number of a
-- principal.
use Rattle.std.specs.Prelude.{ℕ, ◌==◌, ◌&&◌, Bool, true, false, nat_le, nat_lt, codes, if◌then◌else◌}
use Rattle.std.specs.Prelude.{List, [], ◌∷◌, length, Option, Some, None}
use Rattle.std.specs.Borrow.{Bor}
use Rattle.std.specs.List.{list_all, slice_split, before_first, after_first}
use Rattle.std.specs.Char.{is_ascii_digit}
use Rattle.std.specs.Str.{bytes_eq}
use Rattle.std.specs.Str.Parse.{digits_value}
use Rattle.std.specs.Option.{option_and_then}
use Rattle.layout.specs.Types.{Bytes, INumber, Principal}
use Rattle.directory.specs.Name.{is_name}
use Rattle.directory.specs.declared.target.Target.{Target}

-- where a path begins, and the names through which it leads on
pub record Path : Type 0 where
  pub start : Target
  pub names : List Bytes

abbrev pub root : Target
root = record { principal = 0; i_number = 2 }

-- ---- the text of a place: `@p:i`

-- ASCII digits, with no sign
abbrev pub is_number : Bytes → Bool
is_number text = nat_lt 0 (length text) && list_all is_ascii_digit text

-- a number, if it is from `low` to `high`
abbrev pub within : ℕ → ℕ → ℕ → Option ℕ
within low high n = if nat_le low n && nat_le n high then Some n else None

-- the number from `low` to `high` that a text is
abbrev pub number_in : ℕ → ℕ → Bytes → Option ℕ
number_in low high text = if is_number text then within low high (digits_value 10 text) else None

abbrev pub target_of : Option Principal → Option INumber → Option Target
target_of None i = None
target_of (Some p) None = None
target_of (Some p) (Some i) = Some (record { principal = p; i_number = i })

-- a principal, a colon, and an i-number
abbrev pub target_in : Bytes → Option Target
target_in text = target_of (number_in 0 95 (before_first (λ b. b == 58) text))
    (number_in 1 4095 (after_first (λ b. b == 58) text))

-- the place that a text names, behind an `@`
abbrev pub place_of : Bytes → Option Target
place_of [] = None
place_of (mark ∷ text) = if mark == 64 then target_in text else None

-- ---- the text of a path

-- the parts of a text between slashes
abbrev pub parts : Bytes → List Bytes
parts text = slice_split (λ b. b == 47) text

-- those of a text, if there is one
abbrev pub parts_of : Option (Bor Bytes) → List Bytes
parts_of None = []
parts_of (Some text) = parts text.now

abbrev pub has_some : List Bytes → Bool
has_some [] = false
has_some (name ∷ names) = true

-- Where a path begins with this part before its first slash: at the place that it names. A path without such a part has
-- names, and begins at the root directory.
abbrev pub start_of : Bytes → Bool → Option Target
start_of [] has_names = if has_names then Some root else None
start_of (mark ∷ text) has_names = place_of (mark ∷ text)

-- the path from here through these parts of a text, if each is a name
abbrev pub path_from : List Bytes → Target → Option Path
path_from names start = if list_all is_name names then Some (record { start = start; names = names }) else None

abbrev pub path_of_parts : List Bytes → Option Path
path_of_parts [] = None
path_of_parts (first ∷ names) = option_and_then (path_from names) (start_of first (has_some names))

-- the path that a text is; a slash alone is the root directory
unfoldable pub path_of : Bytes → Option Path
path_of text = if bytes_eq text (codes "/") then Some (record { start = root; names = [] })
    else path_of_parts (parts text)
