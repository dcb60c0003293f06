-- The table of principals of a view: the one that user 0's handle names, and what user 0's pending operation makes of
-- it. How it is read stands in docs/RULES.md.
use Rattle.std.specs.Prelude.{◌≡◌, ◌⊎◌, ℕ, false, List, Some}
use Rattle.std.specs.Option.{option_map}
use Rattle.layout.specs.Types.{Digest, Handle}
use Rattle.principals.specs.Table.{Table}
use Rattle.principals.specs.TableText.{table}
use Rattle.update_cert.specs.World.{File, Principals}
use Rattle.update_cert.specs.Reading.{Reading, void_of_table_read}
use Rattle.tree_parts.specs.Blocks.{Blocks, ForEachReading, inode_told}
use Rattle.tree_parts.specs.Asked.{HasChunkFor, IsChunkFor, IsOfPrincipals}
use Rattle.tree_parts.specs.Spot.{lacks}
use Rattle.tree_parts.specs.declared.spot.Spot.{Spot}
use Rattle.client_tree.specs.View.{View, actor_of, tree, tree_before}

-- The digest is asked for to read the table: that of the root of user 0's i-table with this handle, or of its chunk 0;
-- once both are held, that of the i-node which the chunk has at i-number 1, or of a block of the table. No other chunk
-- is asked for.
abbrev pub IsOfNamed : Blocks → Handle → Digest → Spot → Type 0
IsOfNamed blocks handle digest s =
    IsChunkFor blocks 0 handle 1 digest s
    ⊎ ((inode : Digest) × HasChunkFor blocks 0 handle 1 × (inode_told blocks 0 handle 1 ≡ Some (Some inode))
    × IsOfPrincipals blocks inode digest s)

-- The table that user 0's handle names: the file at its place is the text of this table, whatever stands for the
-- digests of which no block tells.
pub record IsNamed (blocks : Blocks) (handle : Handle) (users : Table) : Type 0 where
  pub fits : table.Fits users
  pub file : ForEachReading blocks (λ reads. option_map reads.content (reads.inode 0 handle 1)
      ≡ Some (File (table.spell users)))
  -- nothing of it is missing
  pub taken : (digest : Digest) (s : Spot) → IsOfNamed blocks handle digest s → lacks blocks digest s ≡ false

-- The view's table is what the pending operations make of that one, and these are the numbers of the own changes of it
-- that have no effect.
pub record IsPending (users : Table) (x : View) (numbers : List ℕ) : Type 0 where
  pub after : (reads : Reading) → tree reads users x 0 1 ≡ Some (Principals x.table)
  pub void : (reads : Reading)
      → numbers ≡ void_of_table_read reads (actor_of x.table x.own) x.own.cert.changes (tree_before reads users x)
