-- The ranges of numbers that texts name.
-- The bytes stand in docs/FORMATS.md.
use Rattle.std.specs.Prelude.{ℕ}
use Rattle.std.specs.Int.{w8, w16, w32}
use Rattle.layout.specs.Format.{Format, uint_in}

-- a user; user 0 is the superuser
abbrev pub user : Format ℕ
user = uint_in w8 0 63

abbrev pub group : Format ℕ
group = uint_in w8 64 95

-- a user or a group
abbrev pub principal : Format ℕ
principal = uint_in w8 0 95

-- a number of an operation or of a group's state: they run from 1
abbrev pub version : Format ℕ
version = uint_in w32 1 4294967295

-- the last of them
abbrev pub last_version : ℕ
last_version = 4294967295

-- the number of a file or directory among those of its principal
abbrev pub i_number : Format ℕ
i_number = uint_in w16 1 4095

-- how many bytes a text inside another has
abbrev pub size : Format ℕ
size = uint_in w16 0 65535
