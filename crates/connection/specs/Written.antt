-- What was written to a writer. What it holds is None where it doesn't say.
use Rattle.std.specs.Prelude.{◌≡◌, ◌++◌, Option}
use Rattle.std.specs.Io.KnownBytes.{Appends}
use Rattle.layout.specs.Types.{Bytes}

-- a beginning of these bytes was written
abbrev pub AppendsBeginning : Option Bytes → Option Bytes → Bytes → Type 0
AppendsBeginning before now bytes = (part rest : Bytes) × Appends before now part × (bytes ≡ part ++ rest)
