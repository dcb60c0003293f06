-- Files that are written into one directory in one operation.
use Rattle.std.specs.Prelude.{◌&&◌, Bool, true, not, List, [], ◌∷◌, map}
use Rattle.std.specs.List.{list_all, list_any}
use Rattle.std.specs.Str.{bytes_eq}
use Rattle.layout.specs.Types.{Bytes}
use Rattle.directory.specs.Name.{is_name}
use Rattle.commands.specs.declared.files.NewFile.{NewFile}

abbrev pub name_of : NewFile → Bytes
name_of file = file.name.now

-- no two are equal
abbrev pub are_distinct : List Bytes → Bool
are_distinct [] = true
are_distinct (name ∷ names) = not (list_any (bytes_eq name) names) && are_distinct names

-- each has a name that an entry may have, and no two have one name
abbrev pub have_names : List NewFile → Bool
have_names files = list_all (λ file. is_name (name_of file)) files && are_distinct (map name_of files)
