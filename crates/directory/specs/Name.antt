-- Names of a directory's entries: 1 to 255 bytes of UTF-8, without a slash or a zero byte, and neither `.` nor `..`.
-- The bytes stand in docs/FORMATS.md.
use Rattle.std.specs.Prelude.{◌==◌, Bool, not, ◌&&◌, ◌||◌, length, nat_le, codes}
use Rattle.std.specs.Int.{w8}
use Rattle.std.specs.List.{list_any}
use Rattle.std.specs.Str.{is_utf8, bytes_eq}
use Rattle.layout.specs.Format.{Format, uint_in, guarded, string}
use Rattle.layout.specs.Types.{Bytes}
use Rattle.layout.specs.declared.error.ReadError.TheVariants.{Range}

abbrev pub has_length : Bytes → Bool
has_length bytes = nat_le 1 (length bytes) && nat_le (length bytes) 255

-- a slash parts the names of a path, and a zero byte ends a text in C
abbrev pub has_separator : Bytes → Bool
has_separator bytes = list_any (λ byte. byte == 47 || byte == 0) bytes

-- `.` is the directory itself, and `..` the one that it stands in
abbrev pub is_dots : Bytes → Bool
is_dots bytes = bytes_eq bytes (codes ".") || bytes_eq bytes (codes "..")

-- what a text must be to be a name
abbrev pub is_allowed : Bytes → Bool
is_allowed bytes = has_length bytes && not (has_separator bytes) && not (is_dots bytes)

unfoldable pub is_name : Bytes → Bool
is_name bytes = is_utf8 bytes && is_allowed bytes

-- The length, and as many bytes. A length of 0 is no name's, and one byte holds no greater one than 255.
abbrev pub name : Format Bytes
name = guarded (string (uint_in w8 0 255)) is_name Range
