use Rattle.std.proofs.Common.{◌≡◌, Ok, rules}
use Rattle.version_order.specs.Structure.{group_records}
use Rattle.version_order.specs.StructureLaws.{lawful_group_records}
use Rattle.version_order.proofs.structure.GroupRecordsText.read_fields.Goals as goal

pub invariant_of-result : goal.invariant_of-result
invariant_of-result g c =
    let read : group_records.read c.args.reader.now ≡ Ok (c.in_ok-records.records.items, c.read_rows.new.reader) = search rules in
    (lawful_group_records.takes _ _ _ c.u8_in.ensures.bytes read).fits
