-- Nobody has to believe this file: laws, which are proved.
-- Roots: what is read is spelled so, and what fits and is spelled so is read.
use Rattle.std.specs.Prelude.{Option}
use Rattle.layout.specs.Laws.{laws}
use Rattle.layout.specs.Format.{Lawful}
use Rattle.itable.specs.declared.root.ListedChunk.{ListedChunk}
use Rattle.itable.specs.Root.{chunk_row, root}

pub lawful_chunk_row : (before : Option ListedChunk) → Lawful (chunk_row before)
lawful_chunk_row before = search laws depth 9

pub lawful_root : Lawful root
lawful_root = search (laws, lawful_chunk_row) depth 9
