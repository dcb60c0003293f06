use Rattle.std.proofs.Common.{◌≡◌, Ok, rules}
use Rattle.directory.specs.Directory.{directory}
use Rattle.directory.specs.DirectoryLaws.{lawful_directory}
use Rattle.directory.proofs.directory.DirectoryText.read_fields.Goals as goal

pub invariant_of-result : goal.invariant_of-result
invariant_of-result g c =
    let read : directory.read c.args.reader.now ≡ Ok (c.in_ok-entries.entries.items, c.read_rows.new.reader) = search rules in
    (lawful_directory.takes _ _ _ c.tag.ensures.bytes read).fits
