use Rattle.std.proofs.Common.{arith}
use Rattle.version_order.specs.StructureLaws.{at_most_structure}
use Rattle.pending_list.proofs.reply.StructureRowsRowFormat.write_fields.Goals as goal

pub write_nested-requires : goal.write_nested-requires
write_nested-requires g c = record { few = omega (arith, at_most_structure.holds c.args.row.now.value c.plan-plan.ensures.fits) }
