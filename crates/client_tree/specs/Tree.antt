-- What the own operation of a view makes: the handles and the texts of the parts that it may change, and the changes
-- that it loses.
use Rattle.std.specs.Prelude.{◌≡◌, ◌⊎◌, ℕ, ◌==◌, Bool, ◌&&◌, not, true, false, List, [], ◌∷◌, ◌++◌, Option, Some, map, if◌then◌else◌}
use Rattle.std.specs.List.{All, list_all, list_any}
use Rattle.std.specs.Option.{option_map}
use Rattle.layout.specs.Hash.{hash}
use Rattle.layout.specs.Types.{Bytes, Digest, Handle, INumber, Principal}
use Rattle.itable.specs.File.{blocks_of, inode_of}
use Rattle.itable.specs.Inode.{inode}
use Rattle.itable.specs.ITable.{ITable, IsTable, digest_at, handle_of as table_handle, loaded, new_texts}
use Rattle.directory.specs.Directory.{Entry}
use Rattle.principals.specs.Table.{Table}
use Rattle.principals.specs.TableText.{table as table_format}
use Rattle.update_cert.specs.World.{Directory, is_table}
use Rattle.update_cert.specs.Reading.{Reading}
use Rattle.tree_parts.specs.Blocks.{Blocks, ForEachReading}
use Rattle.tree_parts.specs.Part.{Part, Changed, IsPart, slot_here}
use Rattle.tree_parts.specs.Slots.{slot_digest, directory_digest, changed_texts, has_digest, holds, IsReadBack}
use Rattle.tree_parts.specs.declared.scope.Scope.TheVariants as scopes
use Rattle.tree_parts.specs.declared.spot.Spot.{Spot}
use Rattle.client_tree.specs.View.{View, handle_of, lost as lost_of, tree, written}
use Rattle.client_tree.specs.Principals.{IsPending}
use Rattle.client_tree.specs.Opened.{IsNeeded, IsOpened, is_touched}

-- the digest that a directory has which changed stands for the directory
abbrev pub ReadsChanged : Reading → Part → Type 0
ReadsChanged reads part = (i : INumber) (digest : Digest) (entries : List Entry)
    → slot_here part i ≡ Some (Changed digest entries) → reads.content (directory_digest entries) ≡ Directory entries

-- the digest that a stored i-table has at an i-number: where the chunk isn't loaded, that of the handle before
abbrev pub stored_at : Reading → Handle → ITable → INumber → Option Digest
stored_at reads before t i = if loaded t i then digest_at t i else reads.inode t.principal before i

-- the digest of the i-node of the file that a table of principals lies in: the file of its text
abbrev pub principals_digest : Table → Digest
principals_digest users = hash (inode.spell (inode_of (table_format.spell users)))

-- the texts of that file: its blocks in order, and its i-node
abbrev pub file_of_principals : Table → List Bytes
file_of_principals users = blocks_of (table_format.spell users) ++ inode.spell (inode_of (table_format.spell users)) ∷ []

-- user 0's i-table had this file before, and each of its texts is held
abbrev pub has_principals : Blocks → ITable → Table → Bool
has_principals blocks before users =
    has_digest before 1 (principals_digest users) && list_all (holds blocks) (file_of_principals users)

-- its texts, where it is new; no other principal's part has the table
abbrev pub principals_texts : Blocks → ITable → Principal → Table → List Bytes
principals_texts blocks before p users =
    if (p == 0) && not (has_principals blocks before users) then file_of_principals users else []

-- a principal's part, as it is stored: the handle of its i-table, and the texts that are new
pub record Stored : Type 0 where
  pub principal : Principal
  pub handle : Handle
  pub texts : List Bytes

-- It is the part after the own operation.
pub record IsStored (blocks : Blocks) (x : View) (s : Stored) : Type 0 where
  -- the part after the operations, on the i-table before them
  pub part : Part
  pub is_part : IsPart part
  pub before_well_formed : IsTable part.before
  pub opened : IsOpened blocks x s.principal part
  -- the i-table then has the digests of what stands there, and of the chunks that aren't loaded those that the root
  -- before lists
  pub table : ITable
  pub well_formed : IsTable table
  pub principal : table.principal ≡ s.principal
  pub carried : table.unloaded ≡ part.table.unloaded
  pub digests : (i : INumber) → loaded table i ≡ true → is_table s.principal i ≡ false
      → digest_at table i ≡ option_map slot_digest (slot_here part i)
  -- and at the place of the table of principals that of its file
  pub users : s.principal ≡ 0 → digest_at table 1 ≡ Some (principals_digest x.table)
  pub named : s.handle ≡ table_handle table
  -- and is that of the view's tree, where the digests of directories that changed stand for them,
  pub world : ForEachReading blocks (λ reads. (users : Table) → ReadsChanged reads part
      → (i : INumber) → is_table s.principal i ≡ false
      → option_map reads.content (stored_at reads (handle_of x s.principal) table i) ≡ tree reads users x s.principal i)
  -- as they do for who holds their texts
  pub read_back : (i : INumber) (digest : Digest) (entries : List Entry)
      → slot_here part i ≡ Some (Changed digest entries) → IsReadBack entries
  -- the new texts are those of the directories that changed, of the table of principals, where it changed, of the
  -- chunks that changed, and of the root
  pub stored : s.texts ≡ changed_texts blocks part.before part.table part.opened
      ++ principals_texts blocks part.before s.principal x.table ++ new_texts part.before table

-- No operation on the part has a change of it: it goes on as it is.
pub record IsUntouched (x : View) (s : Stored) : Type 0 where
  pub untouched : is_touched x scopes.All s.principal ≡ false
  pub named : s.handle ≡ handle_of x s.principal
  pub stored : s.texts ≡ []

-- What the own operation makes of the view's tree: each part that it may change, as it is stored.
pub record IsOutcome (blocks : Blocks) (x : View) (parts : List Stored) : Type 0 where
  pub principals : map (λ s. s.principal) parts ≡ written x
  pub stored : All (λ s. IsStored blocks x s ⊎ IsUntouched x s) parts

-- These are the numbers of the own changes that have no effect, whatever stands for the digests of which no block
-- tells, where these are those of the changes of the table of principals among them.
abbrev pub IsLost : Blocks → View → List ℕ → List ℕ → Type 0
IsLost blocks x void numbers = (users : Table) → IsPending users x void
    → ForEachReading blocks (λ reads. numbers ≡ lost_of reads users x)

-- a block by which a part is stored that the own operation may change
abbrev pub IsWanted : Blocks → View → Digest → Spot → Type 0
IsWanted blocks x digest s = (p : Principal) × (list_any (λ q. q == p) (written x) ≡ true)
    × IsNeeded blocks x p digest s
