-- How the name of a row is printed: no control character is printed. A name with one, or with a quote or a backslash,
-- stands in double quotes, each byte escaped that is no printable one of ASCII.
use Rattle.std.specs.Prelude.{ℕ, ◌==◌, ◌||◌, ◌&&◌, ◌+◌, ◌/◌, ◌%◌, ◌++◌, Bool, false, [], ◌∷◌}
use Rattle.std.specs.Prelude.{codes, nat_lt, if◌then◌else◌}
use Rattle.std.specs.List.{flat_map, list_any}
use Rattle.layout.specs.Types.{Bytes}

-- a control character of ASCII, a quote or a backslash
abbrev pub is_special : ℕ → Bool
is_special b = nat_lt b 32 || b == 34 || b == 92 || b == 127

-- behind this byte, a control character of two bytes, which are 0xc2 and 0x80 to 0x9f
abbrev pub has_wide_control : ℕ → Bytes → Bool
has_wide_control before [] = false
has_wide_control before (b ∷ bytes) = (before == 0xc2 && nat_lt b 0xa0) || has_wide_control b bytes

abbrev pub is_quoted : Bytes → Bool
is_quoted name = list_any is_special name || has_wide_control 0 name

-- a hexadecimal digit
abbrev pub hex_digit : ℕ → ℕ
hex_digit n = if nat_lt n 10 then 48 + n else 87 + n

-- a byte as it stands in quotes: `\xHH`, where it is one of these or above those of ASCII
abbrev pub escaped : ℕ → Bytes
escaped b = if is_special b || nat_lt 127 b then codes "\\x" ++ hex_digit (b / 16) ∷ hex_digit (b % 16) ∷ [] else b ∷ []

abbrev pub quoted : Bytes → Bytes
quoted name = codes "\"" ++ flat_map escaped name ++ codes "\""

abbrev pub shown_name : Bytes → Bytes
shown_name name = if is_quoted name then quoted name else name
