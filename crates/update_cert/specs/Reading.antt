-- What digests stand for, and the changes of a certificate so read.
use Rattle.std.specs.Prelude.{ℕ, List, Option, map}
use Rattle.layout.specs.Types.{Digest, Handle, INumber, Principal}
use Rattle.update_cert.specs.Change.{Action, Make, Put, Remove, Link, Unlink, AddUser, AddMember, DropMember, SetKey, Change}
use Rattle.update_cert.specs.World.{Actor, Content, Tree, after, void, void_of, void_of_table}

-- what the i-node of a digest is of, and the digest of the i-node at an i-number of a principal's i-table with a
-- handle, if it has one
pub record Reading : Type 0 where
  pub content : Digest → Content
  pub inode : Principal → Handle → INumber → Option Digest

-- ---- a certificate names contents by digest

abbrev pub read_action : Reading → Action Digest → Action Content
read_action reads (Make digest) = Make (reads.content digest)
read_action reads (Put digest) = Put (reads.content digest)
read_action reads Remove = Remove
read_action reads (Link entry) = Link entry
read_action reads (Unlink name) = Unlink name
read_action reads (AddUser u key) = AddUser u key
read_action reads (AddMember g u) = AddMember g u
read_action reads (DropMember g u) = DropMember g u
read_action reads (SetKey u key) = SetKey u key

abbrev pub read_change : Reading → Change Digest → Change Content
read_change reads c = record { principal = c.principal; i_number = c.i_number; action = read_action reads c.action }

abbrev pub read_changes : Reading → List (Change Digest) → List (Change Content)
read_changes reads cs = map (read_change reads) cs

-- the tree after the changes of a certificate
abbrev pub after_read : Reading → Actor → List (Change Digest) → Tree → Tree
after_read reads actor cs tree = after actor (read_changes reads cs) tree

-- the numbers of those that have no effect; of those done in one principal's part; and of those of the table
abbrev pub void_read : Reading → Actor → List (Change Digest) → Tree → List ℕ
void_read reads actor cs tree = void actor (read_changes reads cs) tree

abbrev pub void_of_read : Reading → Actor → Principal → List (Change Digest) → Tree → List ℕ
void_of_read reads actor p cs tree = void_of actor p (read_changes reads cs) tree

abbrev pub void_of_table_read : Reading → Actor → List (Change Digest) → Tree → List ℕ
void_of_table_read reads actor cs tree = void_of_table actor (read_changes reads cs) tree
