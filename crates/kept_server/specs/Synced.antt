-- Nobody has to believe this file: an aid of private contracts.
-- Files of blocks, all of whose blocks are synced.
use Rattle.layout.specs.Types.{Bytes}
use Rattle.leaf_ledger.specs.Device.{History}
use Rattle.block_file.specs.Blocks.{Keeps}
use Rattle.block_file.specs.Life.{IsSafe}

-- each block that the file keeps is safe: a read gives it, and so does whatever a crash leaves
abbrev pub AllSafe : History → Type 0
AllSafe h = (text : Bytes) → Keeps text h.now.text → IsSafe h text
