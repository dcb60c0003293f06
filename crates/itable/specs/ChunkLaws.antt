-- Nobody has to believe this file: laws, which are proved.
-- Chunks: what is read is spelled so, and what fits and is spelled so is read.
use Rattle.std.specs.Prelude.{ℕ, Option}
use Rattle.layout.specs.Laws.{laws}
use Rattle.layout.specs.Format.{Lawful}
use Rattle.itable.specs.declared.chunk.Pair.{Pair}
use Rattle.itable.specs.Chunk.{pair_row, chunk}

pub lawful_pair_row : (number : ℕ) (before : Option Pair) → Lawful (pair_row number before)
lawful_pair_row number before = search laws depth 9

pub lawful_chunk : Lawful chunk
lawful_chunk = search (laws, lawful_pair_row) depth 9
