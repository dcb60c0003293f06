use Rattle.std.proofs.Common.{◌≡◌, Ok, rules}
use Rattle.itable.specs.Root.{root}
use Rattle.itable.specs.RootLaws.{lawful_root}
use Rattle.itable.proofs.root.RootText.read_fields.Goals as goal

pub invariant_of-result : goal.invariant_of-result
invariant_of-result g c =
    let read : root.read c.args.reader.now ≡ Ok (record { principal = c.in_ok-principal.principal; chunks = c.in_ok-chunks.chunks.items }, c.read_rows.new.reader) = search rules in
    (lawful_root.takes _ _ _ c.tag.ensures.bytes read).fits
