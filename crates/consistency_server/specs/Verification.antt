-- What the verification of a signature under a key came to.
use Rattle.std.specs.Prelude.{Bool}
use Rattle.layout.specs.Types.{Bytes, Key}

pub record Verification : Type 0 where
  pub key : Key
  -- what stands before the signature
  pub unsigned : Bytes
  pub signature : Bytes
  pub is_valid : Bool
