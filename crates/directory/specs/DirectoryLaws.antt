-- Nobody has to believe this file: laws, which are proved.
-- Directories: what is read is spelled so, what fits and is spelled so is read, and how long it is at most.
use Rattle.std.proofs.Common.{arith}
use Rattle.std.proofs.lemmas.List.{length-append}
use Rattle.std.specs.Prelude.{◌≤◌, ◌++◌, List, Option, None, codes, length}
use Rattle.std.specs.Int.{w8, w16}
use Rattle.layout.specs.Format.{be, after_row, spell_rows, Lawful}
use Rattle.layout.specs.Laws.{laws, wide8, wide16}
use Rattle.layout.specs.Sizes.{AtMost, at_most_headed, at_most_guarded, at_most_listed, at_most_mapped, at_most_pair, at_most_string, at_most_uint_in}
use Rattle.directory.specs.declared.directory.TheConstants.{DIRECTORY_SIZE}
use Rattle.directory.specs.Name.{name}
use Rattle.directory.specs.NameLaws.{lawful_name}
use Rattle.directory.specs.Directory.{Entry, target, named, entry, directory}

pub lawful_target : Lawful target
lawful_target = search laws depth 9

pub lawful_named : Lawful named
lawful_named = search (laws, lawful_name, lawful_target) depth 9

pub lawful_entry : (before : Option Entry) → Lawful (entry before)
lawful_entry before = search (laws, lawful_name, lawful_target) depth 9

pub lawful_directory : Lawful directory
lawful_directory = search (laws, lawful_entry)

-- ---- sizes

-- a name has at most 256 bytes with its length
pub at_most_name : AtMost name 256
at_most_name = at_most_guarded _ _ _ 256 (at_most_string w8 0 255 wide8)

at_most_target : AtMost target 3
at_most_target = at_most_mapped _ _ _ 3 (at_most_pair _ _ 1 2 (at_most_uint_in w8 0 95 wide8) (at_most_uint_in w16 1 4095 wide16))

pub at_most_named : AtMost named 259
at_most_named = at_most_mapped _ _ _ 259 (at_most_pair _ _ 256 3 at_most_name at_most_target)

at_most_entry : (before : Option Entry) → AtMost (entry before) 259
at_most_entry before = at_most_mapped _ _ _ 259 (at_most_pair _ _ 256 3 (at_most_guarded _ _ _ 256 at_most_name) at_most_target)

at_most_directory : AtMost directory DIRECTORY_SIZE
at_most_directory = at_most_headed (codes "SDI1") _ 265218 (at_most_listed w16 0 1024 entry 259 wide16 at_most_entry)

-- a text of a directory has 6 bytes or more, and no more than this
pub size_of : (entries : List Entry) → directory.Fits entries → (6 ≤ length (directory.spell entries)) × (length (directory.spell entries) ≤ DIRECTORY_SIZE)
unfolding be
size_of entries fits =
    (omega (arith, length-append (codes "SDI1") (be w16 (length entries) ++ spell_rows (after_row entry) None entries), length-append (be w16 (length entries)) (spell_rows (after_row entry) None entries), wide16.len (length entries)), at_most_directory.holds entries fits)
