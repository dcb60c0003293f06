-- Nobody has to believe this file: an aid of private contracts.
-- What a reader found, where memory didn't run out.
use Rattle.std.specs.Prelude.{◌≡◌, Option, Some, None, Result, Ok, Err}
use Rattle.layout.specs.declared.error.ReadError.{ReadError}

-- what reading gives is this value, or it is some fault
abbrev pub FoundIs : {V : Type 0} → Option V → Result V ReadError → Type 0
FoundIs (Some v) read = read ≡ Ok v
FoundIs None read = (e : ReadError) × (read ≡ Err e)
