-- What has to be laid out before an operation is declared: the files that its changes name.
use Rattle.std.specs.Prelude.{ℕ, ◌≡◌, ◌+◌, ◌==◌, Bool, true, false, ◌&&◌, ◌||◌, List, [], ◌∷◌, length, Contains}
use Rattle.std.specs.List.{list_all, list_any}
use Rattle.std.specs.Option.{option_map_or}
use Rattle.std.specs.Result.{result_ok}
use Rattle.std.specs.Str.{bytes_eq}
use Rattle.layout.specs.Format.{whole}
use Rattle.layout.specs.Hash.{hash}
use Rattle.layout.specs.Types.{Bytes, Digest}
use Rattle.itable.specs.File.{blocks_of, inode_of}
use Rattle.itable.specs.Inode.{inode}
use Rattle.update_cert.specs.Change.{Action, Make, Put, Remove, Link, Unlink, AddUser, AddMember, DropMember, SetKey, Change}
use Rattle.tree_parts.specs.Spot.{is_of_file, size_of_block}
use Rattle.client_tree.specs.Genesis.{inode_digest, root_inode}

-- one of the texts has this digest and this size
abbrev pub has_text : List Bytes → Digest → ℕ → Bool
has_text laid digest size = list_any (λ text. bytes_eq (hash text) digest && (length text == size)) laid

-- these blocks of a file of this size, the first of which is at this place, are among the texts, each of its size
unfoldable pub are_blocks_laid : List Bytes → ℕ → ℕ → List Digest → Bool
are_blocks_laid laid size k [] = true
are_blocks_laid laid size k (d ∷ ds) = has_text laid d (size_of_block size k) && are_blocks_laid laid size (k + 1) ds

-- a text spells a file's i-node, and the blocks of the file are among the texts
abbrev pub is_whole_file : List Bytes → Bytes → Bool
is_whole_file laid text = option_map_or (λ n. is_of_file n.kind && are_blocks_laid laid n.size 0 n.blocks)
    (result_ok (whole inode text)) false

-- one of the texts has this digest, and is the i-node of a file whose blocks are among them
abbrev pub is_file_laid : List Bytes → Digest → Bool
is_file_laid laid digest = list_any (λ text. bytes_eq (hash text) digest && is_whole_file laid text) laid

-- what is made is a file that was laid out, or the empty directory; what is put is a file that was laid out
abbrev pub is_laid : List Bytes → Action Digest → Bool
is_laid laid (Make inode) = is_file_laid laid inode || bytes_eq inode (inode_digest root_inode)
is_laid laid (Put inode) = is_file_laid laid inode
is_laid laid Remove = true
is_laid laid (Link entry) = true
is_laid laid (Unlink name) = true
is_laid laid (AddUser u key) = true
is_laid laid (AddMember g u) = true
is_laid laid (DropMember g u) = true
is_laid laid (SetKey u key) = true

-- so it is of each of these changes
unfoldable pub are_laid : List Bytes → List (Change Digest) → Bool
are_laid laid changes = list_all (λ c. is_laid laid c.action) changes

-- A file in blocks is laid out wherever the text of its i-node and its blocks stand, whatever stands beside them.
abbrev pub IsLaidAnywhere : Bytes → Type 0
IsLaidAnywhere file =
    (laid : List Bytes) → Contains laid (inode.spell (inode_of file))
    → ((block : Bytes) → Contains (blocks_of file) block → Contains laid block)
    → is_file_laid laid (hash (inode.spell (inode_of file))) ≡ true
