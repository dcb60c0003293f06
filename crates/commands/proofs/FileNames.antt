-- The names of files, one after another.
use Rattle.std.proofs.Common.{◌≡◌, ◌&&◌, not, List, ◌∷◌, map, ap, ◌∙◌}
use Rattle.std.specs.List.{list_any}
use Rattle.std.specs.Str.{bytes_eq}
use Rattle.reply_rules.proofs.Tests.{any-map}
use Rattle.commands.specs.Files.{are_distinct, name_of}
use Rattle.commands.specs.declared.files.NewFile.{NewFile}

pub one_more : (files later : List NewFile) (file : NewFile) → files ≡ file ∷ later
    → are_distinct (map name_of files) ≡ (not (list_any (λ f. bytes_eq (name_of file) (name_of f)) later) && are_distinct (map name_of later))
one_more files later file is =
    ap (λ l. are_distinct (map name_of l)) is
    ∙ ap (λ b. not b && are_distinct (map name_of later)) (any-map (bytes_eq (name_of file)) name_of later)
