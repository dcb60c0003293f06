-- What texts tell of digests, and what a handle names whose i-table is among them.
use Rattle.std.specs.Prelude.{◌≡◌, ◌<◌, ℕ, List, Some, find}
use Rattle.std.specs.List.{All, Contains}
use Rattle.std.specs.Str.{bytes_eq}
use Rattle.layout.specs.Hash.{hash}
use Rattle.layout.specs.Types.{Bytes, Digest, Handle, Principal}
use Rattle.itable.specs.Chunk.{Chunk, chunk}
use Rattle.itable.specs.ITable.{ITable, IsTable, handle_of, root_of, root_text}
use Rattle.itable.specs.Root.{chunk_at}
use Rattle.itable.specs.declared.root.ListedChunk.{ListedChunk}
use Rattle.principals.specs.Table.{Table}
use Rattle.version_order.specs.Structure.{Structure}
use Rattle.tree_parts.specs.Blocks.{Blocks, ForEachReading}
use Rattle.client_tree.specs.Genesis.{first_handle}
use Rattle.agreement.specs.Runs.{View, user_of}
use Rattle.agreement.specs.Worlds.{NamesTable}
use Rattle.client_runs.specs.Released.{hashed, views}
use Rattle.client_runs.specs.Runs.{Event, Keys, pinned}

-- the text of a digest among these
abbrev pub told_by_texts : List Bytes → Blocks
told_by_texts texts digest = find (λ t. bytes_eq (hash t) digest) texts

-- ---- what a handle names

-- it is the digest of a chunk of this number, whose text is among these
pub record HasChunk (texts : List Bytes) (n : ℕ) (digest : Digest) : Type 0 where
  pub one : Chunk
  pub fits : chunk.Fits one
  pub number : one.number ≡ n
  pub there : Contains texts (chunk.spell one)
  pub named : digest ≡ hash (chunk.spell one)

-- All of the principal's i-table with this handle is among the texts: its root, and each chunk that the root lists.
pub record IsWhole (texts : List Bytes) (p : Principal) (handle : Handle) : Type 0 where
  pub table : ITable
  pub is_table : IsTable table
  pub principal : table.principal ≡ p
  pub named : handle ≡ handle_of table
  pub root : Contains texts (root_text table)
  pub chunks : (n : ℕ) (c : ListedChunk) → n < 64 → chunk_at (root_of table) n ≡ Some c → HasChunk texts n c.digest

-- each handle that a structure names is of such an i-table: the user's own, and that of each group of which it has a
-- record
pub record NamesWhole (texts : List Bytes) (z : Structure) : Type 0 where
  pub own : IsWhole texts z.plan.user z.handle
  pub groups : All (λ r. IsWhole texts r.group r.handle) z.groups

-- the file of this table of principals stands at its place under the handle, whatever stands for the digests of which
-- no text tells
abbrev pub NamesTableAmong : List Bytes → Handle → Table → Type 0
NamesTableAmong texts handle t = ForEachReading (told_by_texts texts) (λ reads. NamesTable reads handle t)

-- ---- over a run

-- the handles of the beginning are whole among the texts of the run
abbrev pub FirstAreWhole : Keys → List Event → Type 0
FirstAreWhole keys run = (p : Principal) → p < 96 → IsWhole (hashed keys run) p (first_handle p (pinned keys))

-- so are those of each structure that was signed over an accepted view
abbrev pub AllAreWhole : Keys → List Event → Type 0
AllAreWhole keys run = All (λ x. NamesWhole (hashed keys run) x.signed) (views run)

-- the handle that user 0 signs names the table of principals of its view
abbrev pub SignsItsTable : Keys → List Event → View → Type 0
SignsItsTable keys run x = user_of x ≡ 0 → NamesTableAmong (hashed keys run) x.signed.handle x.table
