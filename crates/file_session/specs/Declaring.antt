-- What an operation declares for the changes that are asked for, and the texts that are stored for it.
use Rattle.layout.specs.Hash.{hash}
use Rattle.layout.specs.Types.{Bytes, Digest}
use Rattle.std.specs.Prelude.{List, [], ◌∷◌, map}
use Rattle.std.specs.List.{flat_map}
use Rattle.itable.specs.File.{blocks_of, inode_of}
use Rattle.itable.specs.Inode.{inode}
use Rattle.update_cert.specs.Change.{Action, Make, Put, Remove, Link, Unlink, AddUser, AddMember, DropMember, SetKey, Change}
use Rattle.update_cert.specs.World.{Content, File, Directory, Principals}
use Rattle.client_tree.specs.Genesis.{inode_digest, root_inode}

-- the digest of the i-node of what is made or put: of a file, or of the empty directory
abbrev pub content_digest : Content → Digest
content_digest (File bytes) = hash (inode.spell (inode_of bytes))
content_digest (Directory entries) = inode_digest root_inode
content_digest (Principals table) = []

-- an action, with that digest in the place of a content
abbrev pub declared_action : Action Content → Action Digest
declared_action (Make new) = Make (content_digest new)
declared_action (Put new) = Put (content_digest new)
declared_action Remove = Remove
declared_action (Link entry) = Link entry
declared_action (Unlink name) = Unlink name
declared_action (AddUser u key) = AddUser u key
declared_action (AddMember g u) = AddMember g u
declared_action (DropMember g u) = DropMember g u
declared_action (SetKey u key) = SetKey u key

abbrev pub declared : Change Content → Change Digest
declared c = record { principal = c.principal; i_number = c.i_number; action = declared_action c.action }

abbrev pub all_declared : List (Change Content) → List (Change Digest)
all_declared changes = map declared changes

-- the texts of a content: of a file its i-node and its blocks; everybody has those of the empty directory
abbrev pub texts_of_content : Content → List Bytes
texts_of_content (File bytes) = inode.spell (inode_of bytes) ∷ blocks_of bytes
texts_of_content other = []

-- those of what an action makes or puts
abbrev pub texts_for : Action Content → List Bytes
texts_for (Make new) = texts_of_content new
texts_for (Put new) = texts_of_content new
texts_for other = []

abbrev pub all_texts : List (Change Content) → List Bytes
all_texts changes = flat_map (λ c. texts_for c.action) changes
