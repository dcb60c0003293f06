-- What a connection tells: which bytes were read from it, and which were written to it.
use Rattle.std.specs.Prelude.{ℕ, ◌++◌, take, Option, Some, option_map}
use Rattle.layout.specs.Types.{Bytes}

-- what was read from a connection, and what was written to it
pub record Told : Type 0 where
  pub read : Bytes
  pub written : Bytes

-- what a connection tells of whose bytes so many were read, and to which these were written
abbrev pub told_of : Bytes → ℕ → Bytes → Option Told
told_of input given written = Some (record { read = take given input; written = written })

-- what it tells once these bytes more were read and written
abbrev pub goes_on : Bytes → Bytes → Option Told → Option Told
goes_on read written told = option_map (λ t. record { read = t.read ++ read; written = t.written ++ written }) told
