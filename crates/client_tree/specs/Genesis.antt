-- The beginning: user 0 has the table of principals at 1 and an empty root directory at 2, and nobody else has
-- anything. Each client computes these texts, and never asks for them.
-- The bytes stand in docs/FORMATS.md.
use Rattle.std.specs.Prelude.{List, [], ◌∷◌, ◌++◌, codes, ◌==◌, if◌then◌else◌}
use Rattle.std.specs.Int.{w8, w16, w32}
use Rattle.std.specs.List.{flat_map, range_with_len}
use Rattle.layout.specs.Format.{be}
use Rattle.layout.specs.Hash.{hash}
use Rattle.layout.specs.Types.{Bytes, Digest, Handle, Key, Principal}
use Rattle.itable.specs.declared.chunk.Pair.{Pair}
use Rattle.itable.specs.declared.inode.Kind.TheVariants as kind
use Rattle.itable.specs.Inode.{Inode, inode}
use Rattle.itable.specs.File.{inode_of, inode_over}
use Rattle.itable.specs.ITable.{ITable, handle_of, texts}
use Rattle.directory.specs.Directory.{directory}
use Rattle.client_tree.specs.Held.{Block, keeping_all}

-- the table: one user, user 0 since 0 with this key, and no memberships
unfoldable pub table_text : Key → Bytes
table_text key = codes "SPT1" ++ be w8 1 ++ be w8 0 ++ be w32 0 ++ key ++ be w16 0

-- the digest of an i-node's text
abbrev pub inode_digest : Inode → Digest
inode_digest i = hash (inode.spell i)

-- the table's i-node, and the root directory's
abbrev pub table_inode : Key → Inode
table_inode key = inode_of (table_text key)

abbrev pub root_inode : Inode
root_inode = inode_over kind.Directory (directory.spell [])

-- what user 0 has
abbrev pub first_pairs : Key → List Pair
first_pairs key = record { i_number = 1; digest = inode_digest (table_inode key) }
    ∷ record { i_number = 2; digest = inode_digest root_inode } ∷ []

-- the i-table of a principal, where user 0 has this key
abbrev pub first_table : Principal → Key → ITable
first_table p key = record { principal = p; pairs = if p == 0 then first_pairs key else []; unloaded = [] }

-- its handle
abbrev pub first_handle : Principal → Key → Handle
first_handle p key = handle_of (first_table p key)

-- the principals: users and groups
abbrev pub principals : List Principal
principals = range_with_len 0 96

-- the texts by which a principal's i-table is stored
abbrev pub first_table_texts : Key → Principal → List Bytes
first_table_texts key p = texts (first_table p key)

-- the table of principals with its i-node, and the empty directory with its
unfoldable pub common_texts : Key → List Bytes
common_texts key = table_text key ∷ inode.spell (table_inode key) ∷ directory.spell [] ∷ inode.spell root_inode ∷ []

-- the texts of the beginning, the same for every client: those, and those of each principal's i-table
abbrev pub first_texts : Key → List Bytes
first_texts key = common_texts key ++ flat_map (first_table_texts key) principals

-- and the blocks that each client holds from the beginning
unfoldable pub first_blocks : Key → List Block
first_blocks key = keeping_all [] (first_texts key)
