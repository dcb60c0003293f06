use Rattle.std.proofs.Common.{arith}
use Rattle.std.specs.Int.{w16}
use Rattle.layout.specs.Laws.{in_range}
use Rattle.version_order.proofs.structure.StructureText.write_fields.Goals as goal

pub write_nested-requires : goal.write_nested-requires
write_nested-requires g c = let room = in_range w16 0 65535 _ c.self.invariant.0.0 in record { few = omega (arith, room.1) }
