use Rattle.std.proofs.Common.{◌≡◌, Ok, rules}
use Rattle.version_order.specs.Plan.{entries}
use Rattle.version_order.specs.PlanLaws.{lawful_entries}
use Rattle.version_order.proofs.plan.EntriesText.read_fields.Goals as goal

pub invariant_of-result : goal.invariant_of-result
invariant_of-result g c =
    let read : entries.read c.args.reader.now ≡ Ok (c.in_ok-entries.entries.items, c.read_rows.new.reader) = search rules in
    (lawful_entries.takes _ _ _ c.u8_in.ensures.bytes read).fits
