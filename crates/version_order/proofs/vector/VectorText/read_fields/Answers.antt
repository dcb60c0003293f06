use Rattle.std.proofs.Common.{◌≡◌, Ok, rules}
use Rattle.version_order.specs.Vector.{vector}
use Rattle.version_order.specs.VectorLaws.{lawful_vector}
use Rattle.version_order.proofs.vector.VectorText.read_fields.Goals as goal

pub invariant_of-result : goal.invariant_of-result
invariant_of-result g c =
    let read : vector.read c.args.reader.now ≡ Ok (c.in_ok-components.components.items, c.read_rows.new.reader) = search rules in
    (lawful_vector.takes _ _ _ c.u8_in.ensures.bytes read).fits
