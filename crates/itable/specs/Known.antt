-- Nobody has to believe this file: an aid of private contracts.
-- The digests of its chunks' texts that a table in memory knows.
use Rattle.std.specs.Prelude.{◌≡◌, ℕ, List, Option, Some, None, slice_index_or}
use Rattle.std.specs.Option.{option_map}
use Rattle.layout.specs.Hash.{hash}
use Rattle.itable.specs.ITable.{ITable, IsTable, text_of_chunk}

-- it is a table, and what is known of a chunk is the digest of its text
pub record IsKept (t : ITable) (known : List (Option (List ℕ))) : Type 0 where
  pub is_table : IsTable t
  pub known_is : (n : ℕ) (d : List ℕ) → slice_index_or known n None ≡ Some d → option_map hash (text_of_chunk t n) ≡ Some d
